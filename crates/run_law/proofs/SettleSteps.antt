-- The acts that decide a creation: a settle says a final verdict and takes it, and a rank to which a final verdict comes takes
-- it.
use Rattle.std.proofs.Common.{◌≡◌, ◌<◌, ◌≤◌, ℕ, ◌&&◌, not, Bool, true, false, List, [], get_or, set, Some, None, refl, sym, ap, ◌∙◌, arith}
use Rattle.mpi_base.specs.declared.keys.Kind.{Kind}
use Rattle.mpi_base.specs.declared.keys.Kind.TheVariants as kind
use Rattle.mpi_base.specs.declared.keys.Key.{Key}
use Rattle.mpi_base.specs.MemberLists.{has_rank}
use Rattle.mpi_base.proofs.KeyFacts.{same_key-refl}
use Rattle.mpi_law.specs.declared.setting.Setting.{Setting}
use Rattle.mpi_law.specs.Registry.State.{Registry}
use Rattle.mpi_law.specs.Registry.Contexts.{is_exchange}
use Rattle.mpi_law.specs.Registry.Events.{Event, Picks, registry_next}
use Rattle.mpi_law.specs.Registry.Runs.{IsRegistryRun, registry_after}
use Rattle.agree_law.specs.declared.rows.Verdict.{Verdict}
use Rattle.agree_law.specs.declared.rows.Verdict.TheVariants.{Context, Exhausted}
use Rattle.agree_law.specs.Packets as agree
use Rattle.agree_law.specs.Part.{Agree, round_of, stage_of}
use Rattle.agree_law.specs.Tree.{is_below}
use Rattle.agree_law.specs.Kinds.{is_share}
use Rattle.agree_law.specs.Rule.{is_key}
use Rattle.agree_law.specs.Gather.{verdict_of}
use Rattle.agree_law.specs.Verdicts.{settle_offers, decide, takes, rounds_after, takes_down, take_down, awaits_round}
use Rattle.agree_law.specs.Moves.{settle, takes_packet, deliver}
use Rattle.mpi_protocol.specs.Packets.{Agreeing, said_of}
use Rattle.mpi_protocol.specs.Rank.{Rank}
use Rattle.mpi_protocol.specs.Agreeing.{settles, settles_as, verdict_at, with_verdict}
use Rattle.mpi_protocol.specs.Moves.{Move}
use Rattle.mpi_protocol.specs.Delivers.{delivers, taken_if}
use Rattle.mpi_protocol.specs.Delivers as ranks_deliver
use Rattle.mpi_protocol.specs.Run.{pick_events}
use Rattle.due_law.specs.Dues.{Dues, due_said, due_taken}
use Rattle.run_law.proofs.Joined.{rank_in, Joined}
use Rattle.due_law.specs.Agreed.{HasOffered, AllOffered, IsFreeInMasks, Lacking, TakesFinal}
use Rattle.run_law.proofs.PickSteps.{exhausted_allowed, exhausted_joined, pick_allowed, pick_joined}
use Rattle.run_law.proofs.TakingSteps.{exhausted_taken, context_taken}

-- the events may come, and what they leave belongs to these ranks
abbrev pub Goes : Setting → Registry → List Event → List Rank → Dues → Type 0
Goes s g es ranks due = IsRegistryRun s g es × Joined s ranks due (registry_after s g es)

pub exchange_is : (k : Kind) → is_exchange k ≡ is_share k
exchange_is kind.From = refl
exchange_is kind.Group = refl
exchange_is kind.Dup = refl
exchange_is kind.Split = refl
exchange_is kind.Share = refl

-- the part of a rank that has taken a verdict
abbrev pub ended : Agree → Key → ℕ → Verdict → Agree
ended a key i v = takes (rounds_after a key i v) key i v

settled_part : (r top : ℕ) (a : Agree) (key : Key) (v : Verdict) → is_share key.kind ≡ false → verdict_of top a.gathered key (round_of a.rounds key) ≡ v → (settle r top a key).part ≡ ended a key (round_of a.rounds key) v
unfolding settle settle_offers decide
settled_part r top a key v other e = rw other (rw e refl)

settled_as : (x : Rank) (key : Key) → is_share key.kind ≡ false → settles x key ≡ settles_as x key false
unfolding settles
settled_as x key other = ap (settles_as x key) other

pub settled : (x : Rank) (key : Key) (v : Verdict) → is_share key.kind ≡ false → verdict_at x key ≡ v → (settles x key).state ≡ record (with_verdict x key v) { agree = ended x.agree key (round_of x.agree.rounds key) v }
settled x key v other e =
    ap (λ (m : Move). m.state) (settled_as x key other)
    ∙ (ap (λ (p : Agree). record (with_verdict x key (verdict_at x key)) { agree = p }) (settled_part x.rank x.setting.contexts x.agree key v other e)
    ∙ ap (λ (z : Verdict). record (with_verdict x key z) { agree = ended x.agree key (round_of x.agree.rounds key) v }) e)

taken_part : (r top : ℕ) (a : Agree) (from : ℕ) (key : Key) (i : ℕ) (v : Verdict) → takes_down r a from key i v ≡ true → (deliver r top a from (agree.Down key i v)).part ≡ ended a key i v
unfolding deliver take_down decide
taken_part r top a from key i v e = rw e refl

delivered_as : (x : Rank) (from : ℕ) (key : Key) (i : ℕ) (v : Verdict) → takes_down x.rank x.agree from key i v ≡ true → delivers x from (Some (Agreeing (agree.Down key i v))) ≡ taken_if true x from (Agreeing (agree.Down key i v))
unfolding delivers ranks_deliver.takes_packet takes_packet
delivered_as x from key i v e = ap (λ (b : Bool). taken_if b x from (Agreeing (agree.Down key i v))) e

pub delivered : (x : Rank) (from : ℕ) (key : Key) (i : ℕ) (v : Verdict) → takes_down x.rank x.agree from key i v ≡ true → (delivers x from (Some (Agreeing (agree.Down key i v)))).state ≡ record (with_verdict x key v) { agree = ended x.agree key i v }
delivered x from key i v e =
    ap (λ (m : Move). m.state) (delivered_as x from key i v e) ∙ ap (λ (p : Agree). record (with_verdict x key v) { agree = p }) (taken_part x.rank x.setting.contexts x.agree from key i v e)

down_proper : (r : ℕ) (a : Agree) (from : ℕ) (key : Key) (i : ℕ) (v : Verdict) → takes_down r a from key i v ≡ true → is_share key.kind ≡ false
unfolding takes_down
down_proper r a from key i v e = grind (arith, e)

down_context : (r : ℕ) (a : Agree) (from : ℕ) (key : Key) (i c : ℕ) → takes_down r a from key i (Context c) ≡ true → (is_share key.kind ≡ false) × (get_or a.mask c false ≡ true)
unfolding takes_down
down_context r a from key i c e = (grind (arith, e), go (is_share key.kind) (is_below from r key.members) (awaits_round (stage_of a.opened key) i) (is_key a.owner key) (get_or a.mask c false) e)
  where
    go : (p q t u b : Bool) → (not p && (q && (t && (u && b)))) ≡ true → b ≡ true
    go p q t u b e = grind (arith, e)

takes_own : (x : Rank) (due : Dues) (r : ℕ) (key : Key) (v : Verdict) → has_rank key.members r ≡ true → HasOffered x (due r key) key → TakesFinal x (due_said due key v r key) key v
takes_own x due r key v m h = record { round = h.round; stage = h.stage; owns = h.owns; said = let k = same_key-refl key in rw (k, m) refl }

module _ (s : Setting) (ranks : List Rank) (due : Dues) (g : Registry) (r : ℕ) (key : Key) (j : Joined s ranks due g) (lt : r < s.ranks) where
  -- a settle that says a context, of any creation, and of one class of a split
  pub settle_context : (c : ℕ) → AllOffered s ranks due key → IsFreeInMasks ranks key c → has_rank key.members r ≡ true → verdict_at (rank_in ranks r) key ≡ Context c
      → Goes s g (pick_events r key (Some (said_of (Context c)))) (set ranks r (settles (rank_in ranks r) key).state) (due_taken (due_said due key (Context c)) r key)
  unfolding takes rounds_after
  settle_context c a free m e =
      let other = sym (exchange_is key.kind) ∙ a.proper in
      let p = pick_joined s ranks due g key r j a m c free in
      let t = takes_own (rank_in ranks r) due r key (Context c) m (a.each r m) in
      let z = context_taken s ranks (due_said due key (Context c)) (registry_next s g (Picks r key (Some c))) r key (ended (rank_in ranks r).agree key (round_of (rank_in ranks r).agree.rounds key) (Context c)) p lt a.proper refl c t (free r m) refl refl in
      ((pick_allowed s ranks due g key r j a m c free, tt), rw (settled (rank_in ranks r) key (Context c) other e) z)

  -- a settle that says exhausted
  pub settle_exhausted : AllOffered s ranks due key → ((c : ℕ) → 1 ≤ c → c ≤ s.contexts → Lacking ranks key c) → has_rank key.members r ≡ true → verdict_at (rank_in ranks r) key ≡ Exhausted
      → Goes s g (pick_events r key (Some (said_of Exhausted))) (set ranks r (settles (rank_in ranks r) key).state) (due_taken (due_said due key Exhausted) r key)
  unfolding takes rounds_after
  settle_exhausted a lacks m e =
      let other = sym (exchange_is key.kind) ∙ a.proper in
      let p = exhausted_joined s ranks due g key r j a m in
      let t = takes_own (rank_in ranks r) due r key Exhausted m (a.each r m) in
      let z = exhausted_taken s ranks (due_said due key Exhausted) (registry_next s g (Picks r key None)) r key (ended (rank_in ranks r).agree key (round_of (rank_in ranks r).agree.rounds key) Exhausted) p lt a.proper refl t refl refl in
      ((exhausted_allowed s ranks due g key r j a m lacks, tt), rw (settled (rank_in ranks r) key Exhausted other e) z)

  -- a context comes to a member
  pub deliver_context : (from i c : ℕ) → takes_down (rank_in ranks r).rank (rank_in ranks r).agree from key i (Context c) ≡ true → TakesFinal (rank_in ranks r) (due r key) key (Context c)
      → Goes s g [] (set ranks r (delivers (rank_in ranks r) from (Some (Agreeing (agree.Down key i (Context c))))).state) (due_taken due r key)
  unfolding takes rounds_after
  deliver_context from i c taken t =
      let f = down_context (rank_in ranks r).rank (rank_in ranks r).agree from key i c taken in
      (tt, rw (delivered (rank_in ranks r) from key i (Context c) taken) (context_taken s ranks due g r key (ended (rank_in ranks r).agree key i (Context c)) j lt (exchange_is key.kind ∙ f.0) refl c t f.1 refl refl))

  -- exhausted comes to a member
  pub deliver_exhausted : (from i : ℕ) → takes_down (rank_in ranks r).rank (rank_in ranks r).agree from key i Exhausted ≡ true → TakesFinal (rank_in ranks r) (due r key) key Exhausted
      → Goes s g [] (set ranks r (delivers (rank_in ranks r) from (Some (Agreeing (agree.Down key i Exhausted)))).state) (due_taken due r key)
  unfolding takes rounds_after
  deliver_exhausted from i taken t =
      let f = down_proper (rank_in ranks r).rank (rank_in ranks r).agree from key i Exhausted taken in
      (tt, rw (delivered (rank_in ranks r) from key i Exhausted taken) (exhausted_taken s ranks due g r key (ended (rank_in ranks r).agree key i Exhausted) j lt (exchange_is key.kind ∙ f) refl t refl refl))
