-- At the opening ranks and registry belong together.
use Rattle.std.proofs.Common.{◌≡◌, ◌≤◌, ◌<◌, ◌≤◌, ℕ, zero, suc, ◌+◌, ◌&&◌, nat_lt, nat_le, Bool, true, false, List, [], length, map, get_or, replicate, None, refl, sym, ap, ◌∙◌, subst, arith}
use Rattle.std.specs.List.{range_with_len}
use Rattle.std.proofs.lemmas.Bool.Decides.{nat_tests}
use Rattle.mpi_law.specs.declared.setting.Setting.{Setting}
use Rattle.mpi_law.specs.declared.setting.TheConstants.{THREADS}
use Rattle.mpi_law.specs.Registry.State as reg
use Rattle.mpi_law.specs.Registry.State.{RankPart, Wait, Creating, blank_part, registry_opening}
use Rattle.mpi_protocol.specs.declared.rows.Waits.TheVariants.{Nothing}
use Rattle.mpi_protocol.specs.declared.rows.ThreadRow.{ThreadRow}
use Rattle.mpi_protocol.specs.Rank.{Rank, fresh, idle_thread}
use Rattle.mpi_protocol.specs.World.{opening, blank}
use Rattle.due_law.specs.Dues.{none_due}
use Rattle.run_law.proofs.Locals.{LocalFits}
use Rattle.run_law.proofs.Threads.{row_of, part_row, WaitFits, ThreadsFit}
use Rattle.run_law.proofs.Rows.{row_in}
use Rattle.run_law.proofs.Lists.{length-map, tally, one}
use Rattle.run_law.proofs.Comms.{CommFits, is_numbered}
use Rattle.run_law.proofs.Masks.{MaskFits}
use Rattle.run_law.proofs.Joined.{rank_in, Joined}

length-range : (a n : ℕ) → length (range_with_len a n) ≡ n
length-range a zero = refl
length-range a (suc n) = let ih = length-range (a + 1) n in omega (arith, ih)

length-replicate : {A : Type 0} (n : ℕ) (x : A) → length (replicate n x) ≡ n
length-replicate zero x = refl
length-replicate (suc n) x = let ih = length-replicate n x in omega (arith, ih)

map_range_at : {A : Type 0} (f : ℕ → A) (d : A) (a n i : ℕ) → i < n → get_or (map f (range_with_len a n)) i d ≡ f (a + i)
map_range_at f d a zero i lt = absurd (omega arith)
map_range_at f d a (suc n) zero lt = ap f (omega arith)
map_range_at f d a (suc n) (suc i) lt = map_range_at f d (a + 1) n i (omega arith) ∙ ap f (omega arith)

map_range_past : {A : Type 0} (f : ℕ → A) (d : A) (a n i : ℕ) → n ≤ i → get_or (map f (range_with_len a n)) i d ≡ d
map_range_past f d a zero i le = refl
map_range_past f d a (suc n) zero le = absurd (omega arith)
map_range_past f d a (suc n) (suc i) le = map_range_past f d (a + 1) n i (omega arith)

replicate_at : {A : Type 0} (x : A) (n i : ℕ) → get_or (replicate n x) i x ≡ x
replicate_at x zero i = refl
replicate_at x (suc n) zero = refl
replicate_at x (suc n) (suc i) = replicate_at x n i

-- the full mask
full_at : (a n top c : ℕ) → get_or (map (λ i. nat_lt 0 i && nat_le i top) (range_with_len a n)) c false ≡ (nat_lt c n && (nat_lt 0 (a + c) && nat_le (a + c) top))
full_at a zero top c = grind (arith, nat_tests)
full_at a (suc n) top zero = grind (arith, nat_tests)
full_at a (suc n) top (suc c) = let ih = full_at (a + 1) n top c in grind (arith, nat_tests, ih)

module _ (s : Setting) where
  ranks : List Rank
  ranks = map (fresh s) (range_with_len 0 s.ranks)

  -- what holds of a fresh rank with any setting holds of each
  each : (P : Rank → Type 0) → ((z : Setting) (q : ℕ) → P (fresh z q)) → (r : ℕ) → P (rank_in ranks r)
  unfolding ranks
  each P h r = go (nat_lt r s.ranks) refl
    where
      go : (b : Bool) → nat_lt r s.ranks ≡ b → P (rank_in (map (fresh s) (range_with_len 0 s.ranks)) r)
      go true e = subst P (sym (map_range_at (fresh s) blank 0 s.ranks r (grind (arith, nat_tests, e)))) (h s (0 + r))
      go false e = subst P (sym (map_range_past (fresh s) blank 0 s.ranks r (grind (arith, nat_tests, e)))) (h _ 0)

  pub each_fresh : (P : Rank → Type 0) → ((z : Setting) (q : ℕ) → P (fresh z q)) → (r : ℕ) → P (rank_in (opening s).ranks r)
  unfolding ranks
  each_fresh = each

  at : (r : ℕ) → r < s.ranks → rank_in ranks r ≡ fresh s r
  unfolding ranks
  at r lt = map_range_at (fresh s) blank 0 s.ranks r lt ∙ ap (fresh s) (omega arith)

  part : (r : ℕ) → get_or (replicate s.ranks blank_part) r blank_part ≡ blank_part
  part r = replicate_at blank_part s.ranks r

  idle : (r t : ℕ) → (row_of (rank_in ranks r).threads t).waits ≡ Nothing
  idle r t = each (λ x. (row_of x.threads t).waits ≡ Nothing) (λ z q. ap (λ (u : ThreadRow). u.waits) (replicate_at idle_thread THREADS t)) r

  never : (r t n : ℕ) → (part_row (get_or (replicate s.ranks blank_part) r blank_part).threads t).wait ≡ Creating n → ⊥
  never r t n e =
      let a : (part_row blank_part.threads t).wait ≡ Creating n = subst (λ (p : RankPart). (part_row p.threads t).wait ≡ Creating n) (part r) e in
      let b : (part_row blank_part.threads t).wait ≡ reg.Idle = ap (λ (u : reg.ThreadPart). u.wait) (replicate_at reg.idle_thread THREADS t) in
      cc (a, b)

  pub opening_joined : Joined s (opening s).ranks none_due (registry_opening s)
  unfolding ranks
  opening_joined = record {
    sizes = record {
      ranks_are = length-map (fresh s) (range_with_len 0 s.ranks) ∙ length-range 0 s.ranks;
      parts_are = length-replicate s.ranks blank_part;
      number = λ r lt. ap (λ (x : Rank). x.rank) (at r lt);
      setting = λ r lt. ap (λ (x : Rank). x.setting) (at r lt);
    };
    locals = λ r. rw (part r) (each (λ x. LocalFits [] x.comms.rows r x.local blank_part.local) (λ z q. record { live = refl; opened = refl; names = tt; each = λ n. omega arith; comms_once = λ c. omega arith }) r);
    threads = λ r. rw (part r) (each (λ x. ThreadsFit x.threads x.agree.opened blank_part.threads) (λ z q. record { long = refl; long_part = refl; calls = λ t. calls t; waits = λ t. waits t; waiter = λ k. refl }) r);
    masks = λ r lt. subst (λ (x : Rank). MaskFits s.contexts x.agree.mask x.comms.rows) (sym (at r lt)) (record { wide = length-map (λ i. nat_lt 0 i && nat_le i s.contexts) (range_with_len 0 (s.contexts + 1)) ∙ length-range 0 (s.contexts + 1); bits = λ c. (let f = full_at 0 (s.contexts + 1) s.contexts c in grind (arith, nat_tests, f)) });
    creations = record {
      each = λ r t key target session n ew ep. absurd (never r t n ep);
      uncoloured = λ r t key target session n ew ep. absurd (never r t n ep);
    };
    comms = λ r. record {
      each = λ c. each (λ x. CommFits [] [] r x.agree.owner (none_due r) c (row_in x.comms.rows c) None) (λ z q. tt) r;
      range = λ c e. absurd (cc (e));
      serials = each (λ x. (n : ℕ) → tally (is_numbered n) x.comms.rows ≤ one (nat_le n x.comms.added)) (λ z q n. omega arith) r;
      freeing = λ t serial p ew ep. absurd (let i = idle r t in cc (i, ew));
    };
    whole = record {
      apart = λ p q r lp lq hp hq e. absurd (omega (arith, lp));
      one_open = λ n m ln lm e a b. absurd (omega (arith, ln));
      for_all = λ n r ln a b c. absurd (omega (arith, ln));
      unpicked = λ n ln a b. absurd (omega (arith, ln));
      made_inside = λ n r p ln e. absurd (omega (arith, ln));
      made_once = λ n m r p ln lm e f. absurd (omega (arith, ln));
      numbered = λ n r p ln on c. absurd (omega (arith, ln));
      group_is = λ n ln. absurd (omega (arith, ln));
      returned = λ p z h q m. absurd (cc (h));
      under = λ r t n p e f. absurd (never r t n e);
      placed = λ p r le. refl;
      awaited = λ n r ln a b c. absurd (omega (arith, ln));
    };
  }
    where
      calls : (t : ℕ) → (part_row blank_part.threads t).calls ≡ (row_of (replicate THREADS idle_thread) t).calls
      calls t = ap (λ (u : reg.ThreadPart). u.calls) (replicate_at reg.idle_thread THREADS t) ∙ sym (ap (λ (u : ThreadRow). u.calls) (replicate_at idle_thread THREADS t))

      waits : (t : ℕ) → WaitFits (row_of (replicate THREADS idle_thread) t).waits (part_row blank_part.threads t).wait
      waits t = rw (replicate_at reg.idle_thread THREADS t, replicate_at idle_thread THREADS t) tt
