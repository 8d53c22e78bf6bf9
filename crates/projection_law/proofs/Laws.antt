-- The agreement's laws, for a world that a protocol run reaches.
use Rattle.std.proofs.Common.{◌≡◌, ◌<◌, ◌≤◌, ℕ, true, false, List, length, get_or, slice_get, Some, sym, subst, ap, ◌∙◌, arith}
use Rattle.std.specs.Prelude.{nat_lt}
use Rattle.std.proofs.lemmas.Bool.Decides.{nat_tests}
use Rattle.mpi_base.specs.declared.keys.Key.{Key}
use Rattle.mpi_group.proofs.MemberListFacts.{list_all_get}
use Rattle.mpi_law.specs.declared.setting.Setting.{Setting}
use Rattle.agree_law.specs.declared.rows.Stage.{Stage}
use Rattle.agree_law.specs.declared.rows.Stage.TheVariants.{Offered}
use Rattle.agree_law.specs.declared.rows.Verdict.{Verdict}
use Rattle.agree_law.specs.declared.rows.Verdict.TheVariants.{Retry, Context, Exhausted}
use Rattle.agree_law.specs.Tree.{member_at}
use Rattle.agree_law.specs.Part.{Agree, stage_of, round_of}
use Rattle.agree_law.specs.Packets as agree
use Rattle.agree_law.specs.Rule.{is_key}
use Rattle.agree_law.specs.Gather.{verdict_of}
use Rattle.agree_law.specs.Shares.{share_list, may_settle_share}
use Rattle.agree_law.specs.Verdicts.{may_settle_offers}
use Rattle.agree_law.specs.World as agreement
use Rattle.agree_law.specs.World.{Event, part_at, run, is_key_of}
use Rattle.agree_law.specs.Facts.{is_agreed_on, is_called, IsCaused as IsCausedThere}
use Rattle.agree_law.proofs.Kept.{Kept}
use Rattle.agree_law.proofs.DownSteps.{settling}
use Rattle.agree_law.proofs.OpenRows.{opens_fit}
use Rattle.agree_law.proofs.Law.{settle_fits}
use Rattle.agree_law.proofs.WorldFacts.{picks_are_free, exhausted_is_taken, all_have_called, owners_have_offered, retries_have_zero}
use Rattle.share_law.specs.Facts.{sharing_of}
use Rattle.share_law.proofs.Exchanges.{settled_shares_are_told}
use Rattle.agree_law.proofs.Retries.{retries_are_caused}
use Rattle.mpi_protocol.specs.Packets.{Agreeing}
use Rattle.mpi_protocol.specs.Agreeing.{verdict_at}
use Rattle.mpi_protocol.specs.Delivers.{takes_packet}
use Rattle.mpi_protocol.specs.World.{World, rank_at, link}
use Rattle.projection_law.specs.Facts.{MaySettle, IsFreeAt, IsTaken, HasOffered, OpenFits, HasZero, MaySettleShare, IsToldList}
use Rattle.projection_law.proofs.Projected.{same_size, same_part, agreement_taken}
use Rattle.projection_law.proofs.Targets.{member_below}
use Rattle.projection_law.proofs.Runs.{Projected, ruled}
use Rattle.projection_law.proofs.Acts.{delivered_is_taken}

-- a key of distinct ranks has a member only where there is a rank
some_rank : (ranks : ℕ) (key : Key) (p : ℕ) → is_key_of ranks key ≡ true → p < length key.members → 0 < ranks
unfolding is_key_of
some_rank ranks key p good lt = let low = list_all_get (λ m. nat_lt m ranks) key.members p (grind (arith, good)) lt in let l : get_or key.members p 0 < ranks = grind (arith, nat_tests, low) in omega (arith, l)

module _ (s : Setting) (w : World) (es : List Event) (h : Projected s w es) where
  a : agreement.World
  a = run s.contexts es (agreement.opening s.ranks s.contexts)

  size : length (run s.contexts es (agreement.opening s.ranks s.contexts)).parts ≡ length w.ranks
  size = same_size w (run s.contexts es (agreement.opening s.ranks s.contexts)) h.projects

  kept : Kept s.contexts (run s.contexts es (agreement.opening s.ranks s.contexts))
  kept = (ruled s es).holds.kept

  at : (r : ℕ) → r < length w.ranks → part_at (run s.contexts es (agreement.opening s.ranks s.contexts)) r ≡ (rank_at w r).agree
  at r lt = same_part w (run s.contexts es (agreement.opening s.ranks s.contexts)) r h.projects lt

  may_there : (r : ℕ) (key : Key) → MaySettle w r key → may_settle_offers r (part_at (run s.contexts es (agreement.opening s.ranks s.contexts)) r) key ≡ true
  may_there r key m = subst (λ b. may_settle_offers r b key ≡ true) (sym (at r m.inside)) (subst (λ z. may_settle_offers z (rank_at w r).agree key ≡ true) (h.numbers r m.inside) m.may)

  -- the verdict of a rank in the agreement's words
  said_there : (r : ℕ) (key : Key) (v : Verdict) → r < length w.ranks → verdict_at (rank_at w r) key ≡ v
      → verdict_of s.contexts (part_at (run s.contexts es (agreement.opening s.ranks s.contexts)) r).gathered key (round_of (part_at (run s.contexts es (agreement.opening s.ranks s.contexts)) r).rounds key) ≡ v
  said_there r key v lt e =
      let f : ℕ → Agree → Verdict = λ top b. verdict_of top b.gathered key (round_of b.rounds key) in
      ap (f s.contexts) (at r lt) ∙ (sym (ap (λ (z : Setting). f z.contexts (rank_at w r).agree) (h.settings r lt)) ∙ e)

  pub settled_key : (r : ℕ) (key : Key) → MaySettle w r key → is_key_of (length w.ranks) key ≡ true
  settled_key r key m = let g = (settling s.contexts _ r key (may_there r key m) kept).good in subst (λ n. is_key_of n key ≡ true) size (grind (arith, g))

  pub member_inside : (key : Key) (q : ℕ) → is_key_of (length w.ranks) key ≡ true → q < length key.members → 0 < length w.ranks → member_at key.members q < length w.ranks
  member_inside key q good lt pos = member_below (length w.ranks) key q good pos

  -- a context that is picked is free in each member's mask, which the key owns
  pub picks_are_free_there : (r : ℕ) (key : Key) (c q : ℕ) → MaySettle w r key → verdict_at (rank_at w r) key ≡ Context c → q < length key.members → IsFreeAt w key c q
  picks_are_free_there r key c q m e lt =
      let f = picks_are_free s.contexts _ kept r key c q (may_there r key m) (said_there r key (Context c) m.inside e) lt in
      let i = m.inside in
      let here = at (member_at key.members q) (member_inside key q (settled_key r key m) lt (omega (arith, i))) in
      record { owner = subst (λ (b : Agree). is_key b.owner key ≡ true) here f.owner; free = subst (λ (b : Agree). get_or b.mask c false ≡ true) here f.free }

  -- where exhausted is said, each context is taken at some member, whose mask the key owns
  pub exhausted_is_taken_there : (r : ℕ) (key : Key) (c : ℕ) → MaySettle w r key → verdict_at (rank_at w r) key ≡ Exhausted → 0 < c → c ≤ s.contexts → IsTaken w key c
  exhausted_is_taken_there r key c m e pos le =
      let f = exhausted_is_taken s.contexts _ kept r key c (may_there r key m) (said_there r key Exhausted m.inside e) pos le in
      let i = m.inside in
      let here = at (member_at key.members f.place) (member_inside key f.place (settled_key r key m) f.inside (omega (arith, i))) in
      record {
        place = f.place;
        inside = f.inside;
        owner = subst (λ (b : Agree). is_key b.owner key ≡ true) here f.owner;
        lacks = subst (λ (b : Agree). get_or b.mask c false ≡ false) here f.lacks;
      }

  -- each packet of the agreement that may be delivered is taken
  pub packets_are_taken_there : (r from : ℕ) (q : agree.Packet) → r < length w.ranks → from < length w.ranks → slice_get (link w from r) 0 ≡ Some (Agreeing q) → takes_packet (rank_at w r) from (Agreeing q) ≡ true
  unfolding takes_packet
  packets_are_taken_there r from q lt lf e =
      delivered_is_taken s.contexts w _ r h.projects (ruled s es) lt (h.numbers r lt) (ap (λ (z : Setting). z.contexts) (h.settings r lt)) from q (agreement_taken w _ from r q h.projects lf lt e).head

  -- in round 1 or later each member has called, and none is decided
  pub all_have_called_there : (key : Key) (q : ℕ) → is_agreed_on (length w.ranks) key ≡ true → 0 < round_of (rank_at w (member_at key.members 0)).agree.rounds key → q < length key.members
      → is_called (stage_of (rank_at w (member_at key.members q)).agree.opened key) ≡ true
  all_have_called_there key q good round lt =
      let key_good : is_key_of (length w.ranks) key ≡ true = grind (arith, good) in
      let pos = some_rank (length w.ranks) key q key_good lt in
      let first = at (member_at key.members 0) (member_below (length w.ranks) key 0 key_good pos) in
      let here = at (member_at key.members q) (member_below (length w.ranks) key q key_good pos) in
      subst (λ (b : Agree). is_called (stage_of b.opened key) ≡ true) here
      (all_have_called s.contexts _ kept key q (subst (λ n. is_agreed_on n key ≡ true) (sym size) good) (subst (λ (b : Agree). 0 < round_of b.rounds key) (sym first) round) lt)

  -- each owner of a mask has offered
  pub owners_have_offered_there : (r : ℕ) (key : Key) → r < length w.ranks → is_key (rank_at w r).agree.owner key ≡ true → HasOffered w r key
  owners_have_offered_there r key lt own =
      let f = owners_have_offered s.contexts _ kept r key (subst (λ (b : Agree). is_key b.owner key ≡ true) (sym (at r lt)) own) in
      record { round = f.round; stage = subst (λ (b : Agree). stage_of b.opened key ≡ Some (Offered f.round true)) (at r lt) f.stage }

  -- each open creation fits
  pub opens_fit_there : (r : ℕ) (key : Key) (stage : Stage) → r < length w.ranks → stage_of (rank_at w r).agree.opened key ≡ Some stage → OpenFits w r key stage
  opens_fit_there r key stage lt e =
      let f = opens_fit s.contexts _ kept r key stage (subst (λ (b : Agree). stage_of b.opened key ≡ Some stage) (sym (at r lt)) e) in
      record { key_fits = subst (λ n. is_key_of n key ≡ true) size f.key_fits; member = f.member; kind = f.kind }

  -- where retry is said, some member's offer of the round does not own
  pub retries_have_zero_there : (r : ℕ) (key : Key) → MaySettle w r key → verdict_at (rank_at w r) key ≡ Retry → HasZero w key (round_of (rank_at w r).agree.rounds key)
  retries_have_zero_there r key m e =
      let f = retries_have_zero s.contexts _ kept r key (may_there r key m) (said_there r key Retry m.inside e) in
      let i = m.inside in
      let here = at (member_at key.members f.place) (member_inside key f.place (settled_key r key m) f.inside (omega (arith, i))) in
      record {
        place = f.place;
        inside = f.inside;
        stage = subst (λ (b : Agree). stage_of (rank_at w (member_at key.members f.place)).agree.opened key ≡ Some (Offered (round_of b.rounds key) false)) (at r m.inside) (subst (λ (b : Agree). stage_of b.opened key ≡ Some (Offered (round_of (part_at (run s.contexts es (agreement.opening s.ranks s.contexts)) r).rounds key) false)) here f.stage);
      }

  -- what the first member of an exchange settles is what all members have told
  pub settled_shares_are_told_there : (r : ℕ) (key : Key) → MaySettleShare w r key → IsToldList w key (share_list (rank_at w r).agree.shares key)
  settled_shares_are_told_there r key m =
      let may : may_settle_share r (part_at (run s.contexts es (agreement.opening s.ranks s.contexts)) r) key ≡ true = subst (λ b. may_settle_share r b key ≡ true) (sym (at r m.inside)) (subst (λ z. may_settle_share z (rank_at w r).agree key ≡ true) (h.numbers r m.inside) m.may) in
      let good = settle_fits (length (run s.contexts es (agreement.opening s.ranks s.contexts)).parts) r (part_at (run s.contexts es (agreement.opening s.ranks s.contexts)) r) key may ((ruled s es).holds.splits.shares r) in
      let key_good : is_key_of (length w.ranks) key ≡ true = subst (λ n. is_key_of n key ≡ true) size (grind (arith, good)) in
      let f = settled_shares_are_told s.contexts _ (ruled s es).holds (ruled s es).exchanges r key may in
      let list = ap (λ (b : Agree). share_list b.shares key) (at r m.inside) in
      record {
        long = sym (ap length list) ∙ f.long;
        told = λ p lt. sym (ap (λ z. slice_get z p) list) ∙ (f.told p lt ∙ ap (λ (b : Agree). sharing_of (stage_of b.opened key)) (at (member_at key.members p) (member_inside key p key_good lt (some_rank (length w.ranks) key p key_good lt))));
      }

  -- a retry has its cause among the events since the key's last settle
  pub retries_are_caused_there : (r : ℕ) (key : Key) → MaySettle w r key → verdict_at (rank_at w r) key ≡ Retry → IsCausedThere s.ranks s.contexts es key
  retries_are_caused_there r key m e = retries_are_caused s.ranks s.contexts es r key (may_there r key m) (said_there r key Retry m.inside e)
