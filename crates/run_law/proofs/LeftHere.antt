-- Who has left a communicator has freed it, and no creation under it is open there; and no name is bound to one that its
-- rank has left.
use Rattle.std.proofs.Common.{◌≡◌, ◌<◌, ◌≤◌, ℕ, ◌==◌, ◌||◌, not, Bool, true, false, List, length, Option, Some, None, refl, sym, ap, ◌∙◌, subst, arith}
use Rattle.std.specs.Option.{is_some}
use Rattle.std.proofs.lemmas.Bool.Decides.{nat_tests}
use Rattle.mpi_base.specs.MemberLists.{has_rank}
use Rattle.mpi_base.specs.declared.keys.Key.{Key}
use Rattle.mpi_base.specs.declared.keys.Kind.{Kind}
use Rattle.mpi_base.specs.declared.keys.Kind.TheVariants as kind
use Rattle.local_law.specs.Objects as bound
use Rattle.mpi_law.specs.declared.setting.Setting.{Setting}
use Rattle.mpi_law.specs.Local.Objects.{Bound}
use Rattle.local_law.specs.Names.{bound_of}
use Rattle.mpi_law.specs.Registry.State as reg
use Rattle.mpi_law.specs.Registry.State.{Registry, CreationName, ThreadPart, Wait, Creating, part_of, comm_at, creation_at, created_by}
use Rattle.mpi_law.specs.Registry.Creations.{parent_of, is_place, is_under, creates, has_open_under}
use Rattle.mpi_law.specs.Registry.Contexts.{comm_of, is_live_at, stands_for}
use Rattle.comm_law.specs.declared.rows.CommRow.{CommRow}
use Rattle.comm_law.specs.declared.rows.CommStage.{CommStage}
use Rattle.comm_law.specs.declared.rows.CommStage.TheVariants.{Live, Freed, Left}
use Rattle.comm_law.specs.Comms.{is_left}
use Rattle.mpi_protocol.specs.Rank.{Rank}
use Rattle.run_law.proofs.Lists.{none_at}
use Rattle.run_law.proofs.Rows.{row_in}
use Rattle.run_law.proofs.Contexts.{comm_of_live}
use Rattle.due_law.specs.Dues.{Dues}
use Rattle.run_law.proofs.Locals.{BoundFits}
use Rattle.run_law.proofs.Threads.{part_row}
use Rattle.run_law.proofs.Creations.{comm_in, creation_in}
use Rattle.run_law.proofs.Comms.{is_live, CommFits}
use Rattle.run_law.proofs.Names.{Standing, by_group, by_parent, standing, name_on, has_parent}
use Rattle.run_law.proofs.Bindings.{BothBound, neither, both, bound-fits}
use Rattle.run_law.proofs.KnownHere.{known_here, contexts_agree}
use Rattle.run_law.proofs.OpenHere.{open_same}
use Rattle.run_law.proofs.Joined.{rank_in, Joined}
use Rattle.run_law.proofs.Found.{OfComm}
use Rattle.run_law.proofs.Leavings.{is_left_row, left_in, open_under, Leavings}

-- a row that is live is not left, and one that is left is not live
left_dead : (st : CommStage) → is_left st ≡ true → is_live st ≡ false
left_dead Live e = absurd (cc (e))
left_dead Freed e = refl
left_dead Left e = refl

pub live_stays : (st : CommStage) → is_live st ≡ true → is_left st ≡ false
live_stays Live e = refl
live_stays Freed e = absurd (cc (e))
live_stays Left e = absurd (cc (e))

-- a rank has left a communicator, or given it back
abbrev pub has_left : Registry → List Rank → ℕ → ℕ → Bool
has_left g ranks q p = has_rank (comm_at g p).returned q || left_in (rank_in ranks q).comms.rows (comm_at g p).ctx

module _ (s : Setting) (ranks : List Rank) (due : Dues) (g : Registry) (j : Joined s ranks due g) (r : ℕ) where
  abbrev x : Rank
  x = rank_in ranks r

  -- a communicator that a name is bound to is not left
  pub named_kept : (c : ℕ) → OfComm x.local.names c → left_in x.comms.rows c ≡ false
  named_kept c o = go (bound_of x.local.names o.name) o.there (bound-fits g.comms x.comms.rows r x.local.names (part_of g r).local.names o.name (j.locals r).names)
    where
      at : (b : Bound) → BoundFits g.comms x.comms.rows r (bound.Comm c o.session) b → left_in x.comms.rows c ≡ false
      at (bound.Comm p q) h =
          let k = known_here s ranks due g r j c o.session p q h in
          let stage = k.fits.stage in
          let kept = h.kept in
          let live : is_live k.row.stage ≡ true = grind (arith, stage, kept) in
          ap is_left_row k.is ∙ live_stays k.row.stage live
      at bound.Reserved h = absurd h
      at (bound.Session q) h = absurd h
      at (bound.Group ms q) h = absurd h
      at (bound.Request n) h = absurd h

      go : (a : Option Bound) → a ≡ Some (bound.Comm c o.session) → {b : Option Bound} → BothBound g.comms x.comms.rows r a b → left_in x.comms.rows c ≡ false
      go _ e (neither) = absurd (cc (e))
      go _ e (both a b h) = let is : a ≡ bound.Comm c o.session = cc (e) in at b (subst (λ (z : Bound). BoundFits g.comms x.comms.rows r z b) is h)

  -- a creation under a communicator is under its context
  under_agrees : (p c : ℕ) → comm_of g.comms r c ≡ Some p → 1 ≤ c → (k : Key) (name : CreationName) → stands_for g.comms r k ≡ Some name → is_under p name ≡ (k.parent == c)
  under_agrees p c at lo k name e = go (standing g.comms r k name e)
    where
      named : (a : Kind) (i : ℕ) → k.kind ≡ a → has_parent a ≡ true → is_place p (parent_of (name_on k a i)) ≡ (i == p)
      named kind.From i q u = absurd (cc (u))
      named kind.Group i q u = refl
      named kind.Dup i q u = refl
      named kind.Split i q u = refl
      named kind.Share i q u = refl

      go : Standing g.comms r k name → is_under p name ≡ (k.parent == c)
      go (by_group q z n i) = rw (i, z) (grind (arith, nat_tests, lo))
      go (by_parent i u t there n) = rw n (named k.kind i refl u ∙ sym (contexts_agree s ranks due g r k.parent c i p there at))

  -- so one is open in the registry exactly where it is at the rank
  pub under_open : (p c : ℕ) → comm_of g.comms r c ≡ Some p → 1 ≤ c → has_open_under g p r ≡ open_under x.threads c
  under_open p c at lo = open_same s ranks due g r j (λ m. is_under p m.name) (λ k session. k.parent == c) (λ i k target session n stands caller. under_agrees p c at lo k (creation_at g n).name stands)

  -- none is open anywhere under a communicator that some rank has given back
  returned_none : (p z : ℕ) → has_rank (comm_at g p).returned z ≡ true → has_open_under g p r ≡ false
  returned_none p z back = none_at (λ (t : ThreadPart). creates g (λ m. is_under p m.name) (created_by t.wait)) (part_of g r).threads reg.idle_thread (λ u lu. at u (part_row (part_of g r).threads u).wait refl)
    where
      under : (n u : ℕ) → (part_row (part_of g r).threads u).wait ≡ Creating n → (o : Option ℕ) → parent_of (creation_in g.creations n).name ≡ o → is_place p o ≡ false
      under n u e None q = refl
      under n u e (Some i) q = go (i == p) refl
        where
          go : (b : Bool) → (i == p) ≡ b → b ≡ false
          go false w = refl
          go true w =
              let is : i ≡ p = grind (arith, nat_tests, w) in
              let held = (j.whole.under r u n p e (q ∙ ap (λ (k : ℕ). Some k) is)).held z in
              absurd (cc (held, back))

      at : (u : ℕ) (w : Wait) → (part_row (part_of g r).threads u).wait ≡ w → creates g (λ m. is_under p m.name) (created_by (part_row (part_of g r).threads u).wait) ≡ false
      at u (Creating n) e = rw e (under n u e (parent_of (creation_in g.creations n).name) refl)
      at u reg.Idle e = rw e refl
      at u (reg.Reply_now said) e = rw e refl
      at u (reg.Sending m) e = rw e refl
      at u (reg.Posting a) e = rw e refl
      at u (reg.Requesting a) e = rw e refl
      at u (reg.Freeing i) e = rw e refl
      at u (reg.Ending i) e = rw e refl
      at u (reg.Receiving i) e = rw e refl
      at u (reg.Awaiting i) e = rw e refl

  pub left_settled : Leavings x.comms.rows x.threads → (p : ℕ) → p < length g.comms → has_rank (comm_at g p).members r ≡ true → has_left g ranks r p ≡ true → (has_rank (comm_at g p).freed r ≡ true) × (has_open_under g p r ≡ false)
  left_settled leavings p lp member left = go (has_rank (comm_at g p).returned r) refl
    where
      c : ℕ
      c = (comm_at g p).ctx

      row : (o : Option CommRow) → row_in x.comms.rows c ≡ o → is_left_row o ≡ true → (i : Option ℕ) → i ≡ Some p → CommFits g.comms g.creations r x.agree.owner (due r) c o i → has_rank (comm_at g p).freed r ≡ true
      row None e l i q k = absurd (cc (l))
      row (Some m) e l None q k = absurd k
      row (Some m) e l (Some i) q k =
          let is : i ≡ p = cc (q) in
          let stage : is_live m.stage ≡ not (has_rank (comm_in g.comms p).freed r) = subst (λ (n : ℕ). is_live m.stage ≡ not (has_rank (comm_in g.comms n).freed r)) is k.stage in
          let dead = left_dead m.stage l in
          grind (arith, stage, dead)

      go : (b : Bool) → has_rank (comm_at g p).returned r ≡ b → (has_rank (comm_at g p).freed r ≡ true) × (has_open_under g p r ≡ false)
      go true e = (j.whole.returned p r e r member, returned_none p r e)
      go false e =
          let l : left_in x.comms.rows c ≡ true = grind (arith, left, e) in
          let live : is_live_at (comm_in g.comms p) r ≡ true = grind (arith, member, e) in
          let at = comm_of_live g.comms r p j.whole.apart lp live in
          let lo = ((j.comms r).range c (ap is_some at)).0 in
          (row (row_in x.comms.rows c) refl l (comm_of g.comms r c) at ((j.comms r).each c), under_open p c at lo ∙ leavings c lo l)
