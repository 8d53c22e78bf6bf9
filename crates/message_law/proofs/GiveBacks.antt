-- A rank gives a communicator back, after the markers of all other members: what that does to markers.
use Rattle.std.proofs.Common.{◌≡◌, ◌≢◌, ◌⊎◌, ◌<◌, ◌≤◌, ◌+◌, ◌==◌, ◌&&◌, ◌||◌, not, ℕ, Bool, true, false, List, [], ◌∷◌, ◌++◌, filter, length, get_or, set, Some, refl, sym, ap, ◌∙◌, subst, inl, inr, arith, if◌then◌else◌}
use Rattle.std.proofs.lemmas.Bool.Decides.{nat_tests}
use Rattle.mpi_base.specs.MemberLists.{has_rank}
use Rattle.mpi_law.specs.Registry.State.{Registry, Communicator, blank_comm, comm_at}
use Rattle.mpi_law.specs.Registry.Contexts.{is_live_at}
use Rattle.mpi_law.specs.Registry.Events.{with_returned, give_back}
use Rattle.comm_law.specs.declared.rows.CommRow.{CommRow}
use Rattle.comm_law.specs.declared.rows.MarkerRow.{MarkerRow}
use Rattle.comm_law.specs.Comms.{Comms, row_at, is_noted, all_marked, remove}
use Rattle.mpi_protocol.specs.Packets as packet
use Rattle.mpi_protocol.specs.Packets.{Packet}
use Rattle.agree_law.proofs.Lists.{AllOf, AllOf_each, AllOf_both, AllOf_from_none, one, tally, set_place, length-set}
use Rattle.message_law.proofs.Lists.{find_passes}
use Rattle.message_law.proofs.Meets.{AllOf_passed}
use Rattle.message_law.proofs.MarkerLists.{marked_row, row_kept, noted_kept, noted_gone, tally_kept, noted_counts, orderly_less}
use Rattle.message_law.proofs.Frames.{put, Grows}
use Rattle.message_law.proofs.Leaves.{returned_or_live}
use Rattle.message_law.proofs.Topics.{OnLive, is_marker, orderly, is_note, is_left_row, has_left, Belongs, MarkerFits, Markers, Standing}

has_rank-snoc : (xs : List ℕ) (r q : ℕ) → has_rank (xs ++ r ∷ []) q ≡ (has_rank xs q || (r == q))
has_rank-snoc [] r q = grind (arith)
has_rank-snoc (x ∷ xs) r q = let ih = has_rank-snoc xs r q in grind (arith, ih)

-- The registry after it

abbrev pub back_in : Registry → ℕ → ℕ → Registry
back_in g p r = give_back g r (Some p)

module _ (g : Registry) (p r : ℕ) (there : p < length g.comms) where
  pub comm_after : (d : ℕ) → ((d ≡ p) × (comm_at (back_in g p r) d ≡ with_returned r (comm_at g d))) ⊎ ((d ≢ p) × (comm_at (back_in g p r) d ≡ comm_at g d))
  comm_after d = go (set_place g.comms p (with_returned r (comm_at g p)) blank_comm d)
    where
      go : ((d ≡ p) × (p < length g.comms) × (get_or (set g.comms p (with_returned r (comm_at g p))) d blank_comm ≡ with_returned r (comm_at g p))) ⊎ (((d ≢ p) ⊎ (length g.comms ≤ p)) × (get_or (set g.comms p (with_returned r (comm_at g p))) d blank_comm ≡ comm_at g d))
          → ((d ≡ p) × (comm_at (back_in g p r) d ≡ with_returned r (comm_at g d))) ⊎ ((d ≢ p) × (comm_at (back_in g p r) d ≡ comm_at g d))
      go (inl a) = inl (a.0, a.2 ∙ ap (λ (z : ℕ). with_returned r (comm_at g z)) (sym a.0))
      go (inr a) = inr (by a.0, a.1)
        where
          by : (d ≢ p) ⊎ (length g.comms ≤ p) → d ≢ p
          by (inl ne) = ne
          by (inr le) = absurd (omega (arith, le, there))

  pub back_grows : Grows g (back_in g p r)
  back_grows = record { longer = λ d l. let e = length-set g.comms p (with_returned r (comm_at g p)) in omega (arith, e, l); ctx = λ d l. ctx d (comm_after d); members = λ d l. members d (comm_after d) }
    where
      ctx : (d : ℕ) → ((d ≡ p) × (comm_at (back_in g p r) d ≡ with_returned r (comm_at g d))) ⊎ ((d ≢ p) × (comm_at (back_in g p r) d ≡ comm_at g d)) → (comm_at (back_in g p r) d).ctx ≡ (comm_at g d).ctx
      ctx d (inl a) = ap (λ (z : Communicator). z.ctx) a.1
      ctx d (inr a) = ap (λ (z : Communicator). z.ctx) a.1

      members : (d : ℕ) → ((d ≡ p) × (comm_at (back_in g p r) d ≡ with_returned r (comm_at g d))) ⊎ ((d ≢ p) × (comm_at (back_in g p r) d ≡ comm_at g d)) → (comm_at (back_in g p r) d).members ≡ (comm_at g d).members
      members d (inl a) = ap (λ (z : Communicator). z.members) a.1
      members d (inr a) = ap (λ (z : Communicator). z.members) a.1

  pub returned_after : (d q : ℕ) → has_rank (comm_at (back_in g p r) d).returned q ≡ (has_rank (comm_at g d).returned q || ((d == p) && (r == q)))
  returned_after d q = go (comm_after d)
    where
      go : ((d ≡ p) × (comm_at (back_in g p r) d ≡ with_returned r (comm_at g d))) ⊎ ((d ≢ p) × (comm_at (back_in g p r) d ≡ comm_at g d)) → has_rank (comm_at (back_in g p r) d).returned q ≡ (has_rank (comm_at g d).returned q || ((d == p) && (r == q)))
      go (inl a) =
          let e : (d == p) ≡ true = let s = a.0 in grind (arith, nat_tests, s) in
          ap (λ (z : Communicator). has_rank z.returned q) a.1 ∙ (has_rank-snoc (comm_at g d).returned r q ∙ rw e refl)
      go (inr a) =
          let e : (d == p) ≡ false = let s = a.0 in grind (arith, nat_tests, s) in
          ap (λ (z : Communicator). has_rank z.returned q) a.1 ∙ rw e (or_false (has_rank (comm_at g d).returned q))
        where
          or_false : (b : Bool) → b ≡ (b || false)
          or_false true = refl
          or_false false = refl

  pub live_after : (d s : ℕ) → d < length g.comms → is_live_at (comm_at (back_in g p r) d) s ≡ (is_live_at (comm_at g d) s && not ((d == p) && (r == s)))
  live_after d s l = let a = returned_after d s in let b = back_grows.members d l in rw (a, b) (by (has_rank (comm_at g d).members s) (has_rank (comm_at g d).returned s) ((d == p) && (r == s)))
    where
      by : (x y z : Bool) → (x && not (y || z)) ≡ ((x && not y) && not z)
      by true true z = refl
      by true false z = refl
      by false y z = refl

  -- live after it, and so before
  pub live_before : (d s : ℕ) → OnLive (back_in g p r) d s → OnLive g d s × (((d == p) && (r == s)) ≡ false)
  live_before d s on =
      let e = length-set g.comms p (with_returned r (comm_at g p)) in
      let l0 = on.0 in
      let l : d < length g.comms = omega (arith, e, l0) in
      let a = live_after d s l in
      let b = on.1 in
      ((l, grind (arith, a, b)), grind (arith, a, b))

  pub live_still : (d s : ℕ) → OnLive g d s → ((d == p) && (r == s)) ≡ false → OnLive (back_in g p r) d s
  live_still d s on ne = (back_grows.longer d on.0, let a = live_after d s on.0 in let b = on.1 in grind (arith, a, b, ne))

-- The markers

module _ (n : ℕ) (g : Registry) (comms : ℕ → Comms) (line : ℕ → ℕ → List Packet) (h : Markers n g comms line) (standing : Standing n g comms)
    (p r : ℕ) (lr : r < n) (live : OnLive g p r) (m : CommRow) (row : row_at (comms r) (comm_at g p).ctx ≡ Some m) (members : m.members ≡ (comm_at g p).members) (marked : all_marked (comms r) r (comm_at g p).ctx ≡ true) where
  row_ctx : m.ctx ≡ (comm_at g p).ctx
  row_ctx = let t = find_passes (λ (k : CommRow). k.ctx == (comm_at g p).ctx) (comms r).rows m row in grind (arith, nat_tests, t)

  self_left : has_left g comms r p ≡ true
  self_left = let s = (marked_row (comms r) r (comm_at g p).ctx m row marked).0 in rw (row, s) (grind (arith))

  pub noted_all : (q : ℕ) → has_rank (comm_at g p).members q ≡ true → q ≢ r → is_noted (comms r) (comm_at g p).ctx q ≡ true
  noted_all q i ne = subst (λ (c : ℕ). is_noted (comms r) c q ≡ true) row_ctx ((marked_row (comms r) r (comm_at g p).ctx m row marked).1 q (rw members i) ne)

  total : (q : ℕ) → has_rank (comm_at g p).members q ≡ true → q ≢ r → (has_left g comms q p ≡ true) × (tally (is_marker (comm_at g p).ctx) (line q r) ≡ 0)
  total q i ne =
      let e = h.one_each p q r (standing.ranks p q i) lr ne live i in
      let c = noted_counts (comms r).noted (comm_at g p).ctx q (noted_all q i ne) in
      by (has_left g comms q p) refl e c
    where
      by : (b : Bool) → has_left g comms q p ≡ b → one b ≡ tally (is_marker (comm_at g p).ctx) (line q r) + tally (is_note (comm_at g p).ctx q) (comms r).noted → 1 ≤ tally (is_note (comm_at g p).ctx q) (comms r).noted → (has_left g comms q p ≡ true) × (tally (is_marker (comm_at g p).ctx) (line q r) ≡ 0)
      by true k e c = (k, omega (arith, e, c))
      by false k e c = absurd (omega (arith, e, c))

  -- each member has left
  pub all_left : (q : ℕ) → has_rank (comm_at g p).members q ≡ true → has_left g comms q p ≡ true
  all_left q i = go (q == r) refl
    where
      go : (b : Bool) → (q == r) ≡ b → has_left g comms q p ≡ true
      go true e = let is : q ≡ r = grind (arith, nat_tests, e) in rw is self_left
      go false e = (total q i (grind (arith, nat_tests, e))).0

  -- no marker of it is on its way to the rank
  pub no_marker_comes : (q : ℕ) → q < n → AllOf (λ x. is_marker (comm_at g p).ctx x ≡ false) (line q r)
  no_marker_comes q lq = go (has_rank (comm_at g p).members q) refl (q == r) refl
    where
      fit : ((has_rank (comm_at g p).members q && not (q == r)) ≡ false) → (x : Packet) → MarkerFits g q r x → is_marker (comm_at g p).ctx x ≡ false
      fit none (packet.Agreeing a) f = refl
      fit none (packet.Message z) f = refl
      fit none (packet.Marker d) f = by (d == (comm_at g p).ctx) refl
        where
          by : (b : Bool) → (d == (comm_at g p).ctx) ≡ b → b ≡ false
          by false e = refl
          by true e =
              let ctx : (comm_at g f.place).ctx ≡ (comm_at g p).ctx = f.ctx ∙ grind (arith, nat_tests, e) in
              let same : f.place ≡ p = standing.apart f.place p r f.there live.0 f.live live.1 ctx in
              let member : has_rank (comm_at g p).members q ≡ true = subst (λ (z : ℕ). has_rank (comm_at g z).members q ≡ true) same f.member in
              let other = f.other in
              absurd (grind (arith, nat_tests, none, member, other))

      go : (b : Bool) → has_rank (comm_at g p).members q ≡ b → (t : Bool) → (q == r) ≡ t → AllOf (λ x. is_marker (comm_at g p).ctx x ≡ false) (line q r)
      go true e false t = AllOf_from_none (is_marker (comm_at g p).ctx) (line q r) (total q e (grind (arith, nat_tests, t))).1
      go true e true t = AllOf_each (MarkerFits g q r) (λ x. is_marker (comm_at g p).ctx x ≡ false) (line q r) (fit (grind (arith, t))) (h.on_line q r lq lr)
      go false e t k = AllOf_each (MarkerFits g q r) (λ x. is_marker (comm_at g p).ctx x ≡ false) (line q r) (fit (grind (arith, e))) (h.on_line q r lq lr)

  abbrev back_comms : ℕ → Comms
  back_comms = put r (remove (comms r) (comm_at g p).ctx) comms

  -- who has left still has, and no other
  left_is : (q d : ℕ) → d < length g.comms → has_rank (comm_at g d).members q ≡ true → has_left (back_in g p r) back_comms q d ≡ has_left g comms q d
  left_is q d l i =
      let a = returned_after g p r live.0 d q in
      let c = (back_grows g p r live.0).ctx d l in
      rw (a, c) (go (q == r) refl (d == p) refl (has_rank (comm_at g d).returned q) refl ((comm_at g d).ctx == (comm_at g p).ctx) refl)
    where
      go : (b : Bool) → (q == r) ≡ b → (t : Bool) → (d == p) ≡ t → (u : Bool) → has_rank (comm_at g d).returned q ≡ u → (v : Bool) → ((comm_at g d).ctx == (comm_at g p).ctx) ≡ v
          → ((u || (t && (r == q))) || is_left_row (row_at (if b then remove (comms r) (comm_at g p).ctx else comms q) (comm_at g d).ctx)) ≡ (u || is_left_row (row_at (comms q) (comm_at g d).ctx))
      go b e t f true k v w = refl
      go false e t f false k v w = let z : (r == q) ≡ false = grind (arith, nat_tests, e) in rw z (by t)
        where
          by : (t : Bool) → ((false || (t && false)) || is_left_row (row_at (comms q) (comm_at g d).ctx)) ≡ (false || is_left_row (row_at (comms q) (comm_at g d).ctx))
          by true = refl
          by false = refl
      go true e true f false k v w =
          let is : q ≡ r = grind (arith, nat_tests, e) in
          let same : d ≡ p = grind (arith, nat_tests, f) in
          let z : (r == q) ≡ true = grind (arith, nat_tests, is) in
          let s : has_left g comms q d ≡ true = rw (is, same) self_left in
          let s' : is_left_row (row_at (comms q) (comm_at g d).ctx) ≡ true = rw k at s in
          rw z (sym s')
      go true e false f false k true w =
          let is : q ≡ r = grind (arith, nat_tests, e) in
          let on = returned_or_live g d q l i k in
          let at : is_live_at (comm_at g d) r ≡ true = rw (← is) on.1 in
          let same = standing.apart d p r on.0 live.0 at live.1 (grind (arith, nat_tests, w)) in
          absurd (grind (arith, nat_tests, same, f))
      go true e false f false k false w =
          let is : q ≡ r = grind (arith, nat_tests, e) in
          let s = row_kept (comms r) (comm_at g p).ctx (comm_at g d).ctx w in
          rw (is, s) refl

  belongs_still : (a b c : ℕ) → Belongs g a b c → ((b ≡ r) → (c ≡ (comm_at g p).ctx) → ⊥) → Belongs (back_in g p r) a b c
  belongs_still a b c f ne =
      let on = live_still g p r live.0 f.place b (f.there, f.live) (off (f.place == p) refl (r == b) refl) in
      record { place = f.place; there = on.0; ctx = (back_grows g p r live.0).ctx f.place f.there ∙ f.ctx; live = on.1; member = (let e = (back_grows g p r live.0).members f.place f.there in rw e f.member); other = f.other }
    where
      off : (s : Bool) → (f.place == p) ≡ s → (t : Bool) → (r == b) ≡ t → (s && t) ≡ false
      off false s t k = refl
      off true s false t = refl
      off true s true t =
          let same : f.place ≡ p = grind (arith, nat_tests, s) in
          let ctx = f.ctx in
          absurd (ne (grind (arith, nat_tests, t)) (sym ctx ∙ ap (λ (z : ℕ). (comm_at g z).ctx) same))

  pub back_keeps_markers : Markers n (back_in g p r) back_comms line
  back_keeps_markers = record {
    one_each = λ d a b la lb ne on i. each d a b la lb ne (live_before g p r live.0 d b on) i;
    order = λ a b c la lb. in_order a b c la lb (b == r) refl (c == (comm_at g p).ctx) refl;
    on_line = λ a b la lb. lines a b la lb (b == r) refl;
    noted = λ b lb. notes b lb (b == r) refl;
    gone = all_gone;
  }
    where
      each : (d a b : ℕ) → a < n → b < n → a ≢ b → OnLive g d b × (((d == p) && (r == b)) ≡ false) → has_rank (comm_at (back_in g p r) d).members a ≡ true
          → one (has_left (back_in g p r) back_comms a d) ≡ tally (is_marker (comm_at (back_in g p r) d).ctx) (line a b) + tally (is_note (comm_at (back_in g p r) d).ctx a) (back_comms b).noted
      each d a b la lb ne on i =
          let c = (back_grows g p r live.0).ctx d on.0.0 in
          let ms = (back_grows g p r live.0).members d on.0.0 in
          let mine : has_rank (comm_at g d).members a ≡ true = rw ms at i in
          let old = h.one_each d a b la lb ne on.0 mine in
          rw (left_is a d on.0.0 mine, c) (by (b == r) refl old)
        where
          by : (t : Bool) → (b == r) ≡ t → one (has_left g comms a d) ≡ tally (is_marker (comm_at g d).ctx) (line a b) + tally (is_note (comm_at g d).ctx a) (comms b).noted
              → one (has_left g comms a d) ≡ tally (is_marker (comm_at g d).ctx) (line a b) + tally (is_note (comm_at g d).ctx a) (if t then remove (comms r) (comm_at g p).ctx else comms b).noted
          by false k old = old
          by true k old =
              let is : b ≡ r = grind (arith, nat_tests, k) in
              let ne' : (d == p) ≡ false = let z = on.1 in grind (arith, nat_tests, z, is) in
              let at : is_live_at (comm_at g d) r ≡ true = rw (← is) on.0.1 in
              let none = differ at ((comm_at g d).ctx == (comm_at g p).ctx) refl ne' in
              let kept = tally_kept (comms r).noted (comm_at g p).ctx (comm_at g d).ctx a none in
              let old' : one (has_left g comms a d) ≡ tally (is_marker (comm_at g d).ctx) (line a r) + tally (is_note (comm_at g d).ctx a) (comms r).noted = subst (λ (z : ℕ). one (has_left g comms a d) ≡ tally (is_marker (comm_at g d).ctx) (line a z) + tally (is_note (comm_at g d).ctx a) (comms z).noted) is old in
              rw (is, kept) old'
            where
              differ : is_live_at (comm_at g d) r ≡ true → (v : Bool) → ((comm_at g d).ctx == (comm_at g p).ctx) ≡ v → (d == p) ≡ false → v ≡ false
              differ at false w f = refl
              differ at true w f = absurd (let same = standing.apart d p r on.0.0 live.0 at live.1 (grind (arith, nat_tests, w)) in grind (arith, nat_tests, same, f))

      in_order : (a b c : ℕ) → a < n → b < n → (t : Bool) → (b == r) ≡ t → (u : Bool) → (c == (comm_at g p).ctx) ≡ u → orderly c (is_noted (if t then remove (comms r) (comm_at g p).ctx else comms b) c a) (line a b) ≡ true
      in_order a b c la lb false t u v = h.order a b c la lb
      in_order a b c la lb true t true u =
          let is : b ≡ r = grind (arith, nat_tests, t) in
          let ctx : c ≡ (comm_at g p).ctx = grind (arith, nat_tests, u) in
          let none = noted_gone (comms r) (comm_at g p).ctx a in
          rw (ctx, none) (orderly_less (comm_at g p).ctx (is_noted (comms b) (comm_at g p).ctx a) (line a b) (h.order a b (comm_at g p).ctx la lb))
      in_order a b c la lb true t false u =
          let is : b ≡ r = grind (arith, nat_tests, t) in
          let none = noted_kept (comms r) (comm_at g p).ctx c a u in
          rw (is, none) (h.order a r c la lr)

      lines : (a b : ℕ) → a < n → b < n → (t : Bool) → (b == r) ≡ t → AllOf (MarkerFits (back_in g p r) a b) (line a b)
      lines a b la lb false t = AllOf_each (MarkerFits g a b) (MarkerFits (back_in g p r) a b) (line a b) still (h.on_line a b la lb)
        where
          still : (x : Packet) → MarkerFits g a b x → MarkerFits (back_in g p r) a b x
          still (packet.Agreeing z) f = tt
          still (packet.Message z) f = tt
          still (packet.Marker c) f = belongs_still a b c f (λ e k. absurd (grind (arith, nat_tests, t, e)))
      lines a b la lb true t =
          let is : b ≡ r = grind (arith, nat_tests, t) in
          rw is (AllOf_both (MarkerFits g a r) (λ x. is_marker (comm_at g p).ctx x ≡ false) (MarkerFits (back_in g p r) a r) (line a r) still (h.on_line a r la lr) (no_marker_comes a la))
        where
          still : (x : Packet) → MarkerFits g a r x → is_marker (comm_at g p).ctx x ≡ false → MarkerFits (back_in g p r) a r x
          still (packet.Agreeing z) f none = tt
          still (packet.Message z) f none = tt
          still (packet.Marker c) f none = belongs_still a r c f (λ e k. absurd (grind (arith, nat_tests, none, k)))

      notes : (b : ℕ) → b < n → (t : Bool) → (b == r) ≡ t → AllOf (λ k. Belongs (back_in g p r) k.from b k.ctx) (if t then remove (comms r) (comm_at g p).ctx else comms b).noted
      notes b lb false t = AllOf_each (λ k. Belongs g k.from b k.ctx) (λ k. Belongs (back_in g p r) k.from b k.ctx) (comms b).noted (λ k f. belongs_still k.from b k.ctx f (λ e z. absurd (grind (arith, nat_tests, t, e)))) (h.noted b lb)
      notes b lb true t =
          let is : b ≡ r = grind (arith, nat_tests, t) in
          rw is (AllOf_each (λ k. Belongs g k.from r k.ctx × (not (k.ctx == (comm_at g p).ctx) ≡ true)) (λ k. Belongs (back_in g p r) k.from r k.ctx) (filter (λ k. not (k.ctx == (comm_at g p).ctx)) (comms r).noted)
          (λ k f. belongs_still k.from r k.ctx f.0 (λ e z. absurd (let none = f.1 in grind (arith, nat_tests, none, z))))
          (AllOf_passed (λ (k : MarkerRow). Belongs g k.from r k.ctx) (λ (k : MarkerRow). not (k.ctx == (comm_at g p).ctx)) (comms r).noted (h.noted r lr)))

      all_gone : (d q s : ℕ) → d < length (back_in g p r).comms → has_rank (comm_at (back_in g p r) d).returned s ≡ true → has_rank (comm_at (back_in g p r) d).members q ≡ true → has_left (back_in g p r) back_comms q d ≡ true
      all_gone d q s l e i =
          let z = length-set g.comms p (with_returned r (comm_at g p)) in
          let l' : d < length g.comms = omega (arith, z, l) in
          let ms = (back_grows g p r live.0).members d l' in
          let mine : has_rank (comm_at g d).members q ≡ true = rw ms at i in
          left_is q d l' mine ∙ by l' mine (has_rank (comm_at g d).returned s) refl (returned_after g p r live.0 d s)
        where
          by : d < length g.comms → has_rank (comm_at g d).members q ≡ true → (t : Bool) → has_rank (comm_at g d).returned s ≡ t → has_rank (comm_at (back_in g p r) d).returned s ≡ (has_rank (comm_at g d).returned s || ((d == p) && (r == s))) → has_left g comms q d ≡ true
          by l' mine true t a = h.gone d q s l' t mine
          by l' mine false t a =
              let same : d ≡ p = grind (arith, nat_tests, e, t, a) in
              rw same (all_left q (subst (λ (z : ℕ). has_rank (comm_at g z).members q ≡ true) same mine))
