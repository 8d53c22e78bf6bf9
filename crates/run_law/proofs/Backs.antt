-- A rank gives back a communicator that all its members have left: what that leaves of the registry's communicators.
use Rattle.std.proofs.Common.{◌≡◌, ◌≢◌, ◌⊎◌, ◌<◌, ℕ, ◌==◌, ◌||◌, true, false, List, length, set, Option, Some, None, refl, sym, ap, ◌∙◌, subst, inl, inr, arith, length-set}
use Rattle.std.proofs.lemmas.Bool.Decides.{nat_tests}
use Rattle.mpi_base.specs.MemberLists.{has_rank}
use Rattle.mpi_base.specs.declared.keys.Key.{Key}
use Rattle.mpi_law.specs.declared.setting.Setting.{Setting}
use Rattle.mpi_law.specs.Registry.State as reg
use Rattle.mpi_law.specs.Registry.State.{Registry, Communicator, CreationName, ThreadPart, Wait, Creating, blank_comm, part_of, comm_at, session_at, created_by}
use Rattle.mpi_law.specs.Registry.Creations.{parent_of, is_under, creates, has_open_under}
use Rattle.mpi_law.specs.Registry.Contexts.{comm_of, is_live_at, stands_for}
use Rattle.mpi_law.specs.Registry.Messages.{has_waiting, left_on}
use Rattle.mpi_law.specs.Registry.Events.{with_returned}
use Rattle.match_law.specs.Box.{kept_on}
use Rattle.mpi_protocol.specs.declared.rows.Waits.{Waits}
use Rattle.mpi_protocol.specs.declared.rows.Waits.TheVariants.{Nothing, Creation as Creates, Uncoloured, Freeing, Ending, Receiving, Awaiting}
use Rattle.mpi_protocol.specs.Rank.{Rank}
use Rattle.run_law.proofs.Contexts.{Apart, comm_of_is, comm_of_live, live_member, has_rank-append}
use Rattle.due_law.specs.Dues.{Dues}
use Rattle.run_law.proofs.Threads.{WaitFits, row_of, part_row}
use Rattle.run_law.proofs.Creations.{comm_in, creation_in}
use Rattle.run_law.proofs.Wholes.{ParentFits, BackIsFreed}
use Rattle.run_law.proofs.Names.{Standing, by_group, by_parent, standing, stands_by, parent_on}
use Rattle.run_law.proofs.Waiters.{thread_inside}
use Rattle.run_law.proofs.Parts.{set_at, thread_in}
use Rattle.run_law.proofs.CallSteps.{any_at}
use Rattle.run_law.proofs.Joined.{rank_in, Joined}
use Rattle.run_law.proofs.SameComms.{SameAt}
use Rattle.run_law.proofs.ChangedComms.{ChangedBy, session_stays}
use Rattle.run_law.proofs.Leavings.{Leavings}
use Rattle.run_law.proofs.LeftHere.{has_left, left_settled}

-- what the markers and the messages must give, where a rank gives back the communicator at a place: that all members have left
-- it, that no receive of the rank on it is without a message, and how many messages are dropped
pub record BackAsked (ranks : List Rank) (g : Registry) (r c p : ℕ) : Type 0 where
  pub left : (q : ℕ) → has_rank (comm_at g p).members q ≡ true → has_left g ranks q p ≡ true
  pub complete : has_waiting g p r ≡ false
  pub dropped : kept_on (rank_in ranks r).box c ≡ left_on g p r

-- in each rank, what it has left has no creation under it
abbrev pub AllLeavings : List Rank → Type 0
AllLeavings ranks = (q : ℕ) → Leavings (rank_in ranks q).comms.rows (rank_in ranks q).threads

module _ (s : Setting) (ranks : List Rank) (due : Dues) (g : Registry) (r c p : ℕ) (j : Joined s ranks due g) (leavings : AllLeavings ranks) (stands : comm_of g.comms r c ≡ Some p) (left : (q : ℕ) → has_rank (comm_at g p).members q ≡ true → has_left g ranks q p ≡ true) where
  there : p < length g.comms
  there = (comm_of_is g.comms r c p stands).inside

  its_context : (comm_in g.comms p).ctx ≡ c
  its_context = (comm_of_is g.comms r c p stands).context

  member : has_rank (comm_in g.comms p).members r ≡ true
  member = live_member (comm_in g.comms p) r (comm_of_is g.comms r c p stands).live

  pub settled : (q : ℕ) → has_rank (comm_at g p).members q ≡ true → (has_rank (comm_at g p).freed q ≡ true) × (has_open_under g p q ≡ false)
  settled q m = left_settled s ranks due g j q (leavings q) p there m (left q m)

  -- no thread waits for a creation under it
  pub none_under : (q u n : ℕ) → (thread_in g.ranks q u).wait ≡ Creating n → parent_of (creation_in g.creations n).name ≡ Some p → ⊥
  none_under q u n w e = go (row_of (rank_in ranks q).threads u).waits (thread_in g.ranks q u).wait refl refl ((j.threads q).waits u)
    where
      is_open : has_open_under g p q ≡ true
      is_open =
          let under : is_under p (creation_in g.creations n).name ≡ true = rw e (grind (arith, nat_tests)) in
          let lu = thread_inside s ranks due g j q u n w in
          let on : creates g (λ m. is_under p m.name) (created_by (part_row (part_of g q).threads u).wait) ≡ true = rw w under in
          any_at (λ (t : ThreadPart). creates g (λ m. is_under p m.name) (created_by t.wait)) (part_of g q).threads reg.idle_thread u (let l = (j.threads q).long_part in omega (arith, l, lu)) on

      at : (k : Key) → stands_for g.comms q k ≡ Some (creation_in g.creations n).name → ⊥
      at k z = by (standing g.comms q k (creation_in g.creations n).name z)
        where
          by : Standing g.comms q k (creation_in g.creations n).name → ⊥
          by (by_group kind parent number is) = let z : parent_of (creation_in g.creations n).name ≡ None = ap parent_of is in cc (z, e)
          by (by_parent i u t here is) =
              let z : parent_of (creation_in g.creations n).name ≡ Some i = ap parent_of is ∙ parent_on k k.kind i u in
              let same : i ≡ p = cc (z, e) in
              let live = (comm_of_is g.comms q k.parent i here).live in
              let m : has_rank (comm_in g.comms p).members q ≡ true = subst (λ (v : ℕ). has_rank (comm_in g.comms v).members q ≡ true) same (live_member (comm_in g.comms i) q live) in
              let none = (settled q m).1 in
              cc (none, is_open)

      go : (a : Waits) (b : Wait) → (row_of (rank_in ranks q).threads u).waits ≡ a → (thread_in g.ranks q u).wait ≡ b → WaitFits a b → ⊥
      go (Creates k target session) b ea eb h = at k (j.creations.each q u k target session n ea w).stands
      go (Uncoloured k target session) b ea eb h = at k (j.creations.uncoloured q u k target session n ea w).stands
      go Nothing reg.Idle ea eb h = cc (eb, w)
      go (Freeing i) (reg.Freeing k) ea eb h = cc (eb, w)
      go (Ending i) (reg.Ending k) ea eb h = cc (eb, w)
      go (Receiving i) (reg.Receiving k) ea eb h = cc (eb, w)
      go (Awaiting i) (reg.Awaiting k) ea eb h = cc (eb, w)
      go a b ea eb h = h

  -- The communicators after it

  abbrev pub cs : List Communicator
  cs = set g.comms p (with_returned r (comm_in g.comms p))

  row_at : (q : ℕ) → ((q ≡ p) × (comm_in cs q ≡ with_returned r (comm_in g.comms q))) ⊎ ((q ≢ p) × (comm_in cs q ≡ comm_in g.comms q))
  row_at q = go (set_at g.comms p (with_returned r (comm_in g.comms p)) blank_comm q there)
    where
      go : ((q ≡ p) × (comm_in cs q ≡ with_returned r (comm_in g.comms p))) ⊎ ((q ≢ p) × (comm_in cs q ≡ comm_in g.comms q)) → ((q ≡ p) × (comm_in cs q ≡ with_returned r (comm_in g.comms q))) ⊎ ((q ≢ p) × (comm_in cs q ≡ comm_in g.comms q))
      go (inl a) = inl (a.0, a.1 ∙ ap (λ (i : ℕ). with_returned r (comm_in g.comms i)) (sym a.0))
      go (inr a) = inr a

  pub other : (q : ℕ) → q ≢ p → comm_in cs q ≡ comm_in g.comms q
  other q ne = go (row_at q)
    where
      go : ((q ≡ p) × (comm_in cs q ≡ with_returned r (comm_in g.comms q))) ⊎ ((q ≢ p) × (comm_in cs q ≡ comm_in g.comms q)) → comm_in cs q ≡ comm_in g.comms q
      go (inl a) = absurd (ne a.0)
      go (inr a) = a.1

  pub it : comm_in cs p ≡ with_returned r (comm_in g.comms p)
  it = go (row_at p)
    where
      go : ((p ≡ p) × (comm_in cs p ≡ with_returned r (comm_in g.comms p))) ⊎ ((p ≢ p) × (comm_in cs p ≡ comm_in g.comms p)) → comm_in cs p ≡ with_returned r (comm_in g.comms p)
      go (inl a) = a.1
      go (inr a) = absurd (a.0 refl)

  -- all but who has given it back
  kept : {A : Type 0} (F : ℕ → List ℕ → List ℕ → List ℕ → A) (q : ℕ) → F (comm_in cs q).ctx (comm_in cs q).members (comm_in cs q).sessions (comm_in cs q).freed ≡ F (comm_in g.comms q).ctx (comm_in g.comms q).members (comm_in g.comms q).sessions (comm_in g.comms q).freed
  kept F q = go (row_at q)
    where
      go : ((q ≡ p) × (comm_in cs q ≡ with_returned r (comm_in g.comms q))) ⊎ ((q ≢ p) × (comm_in cs q ≡ comm_in g.comms q)) → F (comm_in cs q).ctx (comm_in cs q).members (comm_in cs q).sessions (comm_in cs q).freed ≡ F (comm_in g.comms q).ctx (comm_in g.comms q).members (comm_in g.comms q).sessions (comm_in g.comms q).freed
      go (inl a) = rw a.1 refl
      go (inr a) = rw a.1 refl

  -- who has given one back: one more, or not
  returned_is : (q z : ℕ) → (has_rank (comm_in cs q).returned z ≡ has_rank (comm_in g.comms q).returned z) ⊎ ((q ≡ p) × (has_rank (comm_in cs q).returned z ≡ (has_rank (comm_in g.comms q).returned z || (r == z))))
  returned_is q z = go (row_at q)
    where
      go : ((q ≡ p) × (comm_in cs q ≡ with_returned r (comm_in g.comms q))) ⊎ ((q ≢ p) × (comm_in cs q ≡ comm_in g.comms q))
          → (has_rank (comm_in cs q).returned z ≡ has_rank (comm_in g.comms q).returned z) ⊎ ((q ≡ p) × (has_rank (comm_in cs q).returned z ≡ (has_rank (comm_in g.comms q).returned z || (r == z))))
      go (inl a) = inr (a.0, ap (λ (m : Communicator). has_rank m.returned z) a.1 ∙ has_rank-append (comm_in g.comms q).returned r z)
      go (inr a) = inl (ap (λ (m : Communicator). has_rank m.returned z) a.1)

  pub back_changed : ChangedBy g.comms cs r
  back_changed = record {
    long = length-set g.comms p (with_returned r (comm_in g.comms p));
    ctx = kept (λ d ms ss freed. d);
    members = kept (λ d ms ss freed. ms);
    sessions = kept (λ d ms ss freed. ss);
    freed = λ q z ne. kept (λ d ms ss freed. has_rank freed z) q;
    returned = λ q z ne. go q z ne (returned_is q z);
  }
    where
      go : (q z : ℕ) → z ≢ r → (has_rank (comm_in cs q).returned z ≡ has_rank (comm_in g.comms q).returned z) ⊎ ((q ≡ p) × (has_rank (comm_in cs q).returned z ≡ (has_rank (comm_in g.comms q).returned z || (r == z)))) → has_rank (comm_in cs q).returned z ≡ has_rank (comm_in g.comms q).returned z
      go q z ne (inl a) = a
      go q z ne (inr a) = let e = a.1 in let off : (r == z) ≡ false = grind (arith, nat_tests, ne) in grind (arith, e, off)

  -- what is live after it was live before
  live_before : (q z : ℕ) → is_live_at (comm_in cs q) z ≡ true → is_live_at (comm_in g.comms q) z ≡ true
  live_before q z e = go (returned_is q z)
    where
      ms : has_rank (comm_in cs q).members z ≡ has_rank (comm_in g.comms q).members z
      ms = kept (λ d ms ss freed. has_rank ms z) q

      go : (has_rank (comm_in cs q).returned z ≡ has_rank (comm_in g.comms q).returned z) ⊎ ((q ≡ p) × (has_rank (comm_in cs q).returned z ≡ (has_rank (comm_in g.comms q).returned z || (r == z)))) → is_live_at (comm_in g.comms q) z ≡ true
      go (inl a) = let m = ms in grind (arith, e, a, m)
      go (inr a) = let b = a.1 in let m = ms in grind (arith, e, b, m)

  pub back_apart : Apart cs
  back_apart i k z li lk hi hk e =
      let l = length-set g.comms p (with_returned r (comm_in g.comms p)) in
      j.whole.apart i k z (omega (arith, li, l)) (omega (arith, lk, l)) (live_before i z hi) (live_before k z hk) (sym (kept (λ d ms ss freed. d) i) ∙ (e ∙ kept (λ d ms ss freed. d) k))

  -- what stands for one after it stood for it before
  stood : (d q : ℕ) → comm_of cs r d ≡ Some q → comm_of g.comms r d ≡ Some q
  stood d q e =
      let h = comm_of_is cs r d q e in
      let l = length-set g.comms p (with_returned r (comm_in g.comms p)) in
      let i = h.inside in
      let at = comm_of_live g.comms r q j.whole.apart (omega (arith, i, l)) (live_before q r h.live) in
      subst (λ (v : ℕ). comm_of g.comms r v ≡ Some q) (sym (kept (λ d ms ss freed. d) q) ∙ h.context) at

  stays : (d q : ℕ) → q ≢ p → comm_of g.comms r d ≡ Some q → comm_of cs r d ≡ Some q
  stays d q ne e =
      let h = comm_of_is g.comms r d q e in
      let l = length-set g.comms p (with_returned r (comm_in g.comms p)) in
      let i = h.inside in
      let same = other q ne in
      let at = comm_of_live cs r q back_apart (omega (arith, i, l)) (rw same h.live) in
      subst (λ (v : ℕ). comm_of cs r v ≡ Some q) (ap (λ (m : Communicator). m.ctx) same ∙ h.context) at

  -- the context stands for nothing more at the rank, and each other one for what it stood for
  pub gone : comm_of cs r c ≡ None
  gone = go (comm_of cs r c) refl
    where
      go : (o : Option ℕ) → comm_of cs r c ≡ o → o ≡ None
      go None e = refl
      go (Some q) e =
          let before = stood c q e in
          let is : q ≡ p = cc (before, stands) in
          let live = (comm_of_is cs r c q e).live in
          let m : is_live_at (with_returned r (comm_in g.comms p)) r ≡ true = sym (ap (λ (z : Communicator). is_live_at z r) it) ∙ subst (λ (v : ℕ). is_live_at (comm_in cs v) r ≡ true) is live in
          let back = has_rank-append (comm_in g.comms p).returned r r in
          absurd (grind (arith, nat_tests, m, back))

  pub context_other : (d q : ℕ) → comm_of g.comms r d ≡ Some q → q ≢ p → d ≢ c
  context_other d q e ne is = ne (let a : comm_of g.comms r c ≡ Some q = subst (λ (v : ℕ). comm_of g.comms r v ≡ Some q) is e in cc (a, stands))

  pub place_other : (d q : ℕ) → comm_of g.comms r d ≡ Some q → d ≢ c → q ≢ p
  place_other d q e ne is = ne (sym (comm_of_is g.comms r d q e).context ∙ (ap (λ (v : ℕ). (comm_in g.comms v).ctx) is ∙ its_context))

  pub others_stand : (d : ℕ) → d ≢ c → comm_of cs r d ≡ comm_of g.comms r d
  others_stand d ne = go (comm_of g.comms r d) refl (comm_of cs r d) refl
    where
      go : (o : Option ℕ) → comm_of g.comms r d ≡ o → (n : Option ℕ) → comm_of cs r d ≡ n → comm_of cs r d ≡ comm_of g.comms r d
      go (Some q) e n f = stays d q (place_other d q e ne) e ∙ sym e
      go None e None f = f ∙ sym e
      go None e (Some q) f = absurd (let b = stood d q f in cc (b, e))

  pub same_here : SameAt g.comms cs r (λ q. q ≢ p)
  same_here = record { members = kept (λ d ms ss freed. ms); session = λ q. session_stays g.comms cs r back_changed q r; stands = λ d q ne e. stays d q ne e; freed = λ q ne. kept (λ d ms ss freed. has_rank freed r) q }

  -- a key of a creation that a thread waits for stands for it as before
  pub key_stands : (u n : ℕ) (k : Key) → (thread_in g.ranks r u).wait ≡ Creating n → stands_for g.comms r k ≡ Some (creation_in g.creations n).name → stands_for cs r k ≡ Some (creation_in g.creations n).name
  key_stands u n k w e = go (standing g.comms r k (creation_in g.creations n).name e)
    where
      go : Standing g.comms r k (creation_in g.creations n).name → stands_for cs r k ≡ Some (creation_in g.creations n).name
      go (by_group kind parent number is) = stands_by cs r k (creation_in g.creations n).name (by_group kind parent number is)
      go (by_parent i v t here is) =
          let z : parent_of (creation_in g.creations n).name ≡ Some i = ap parent_of is ∙ parent_on k k.kind i v in
          stands_by cs r k (creation_in g.creations n).name (by_parent i v t (stays k.parent i (λ same. none_under r u n w (z ∙ ap (λ (a : ℕ). Some a) same)) here) is)

  -- The registry alone

  pub back_returned : BackIsFreed cs
  back_returned q z back m mem = go (row_at q)
    where
      freed : has_rank (comm_in cs q).freed m ≡ has_rank (comm_in g.comms q).freed m
      freed = kept (λ d ms ss freed. has_rank freed m) q

      before : has_rank (comm_in g.comms q).members m ≡ true
      before = sym (kept (λ d ms ss freed. has_rank ms m) q) ∙ mem

      go : ((q ≡ p) × (comm_in cs q ≡ with_returned r (comm_in g.comms q))) ⊎ ((q ≢ p) × (comm_in cs q ≡ comm_in g.comms q)) → has_rank (comm_in cs q).freed m ≡ true
      go (inl a) = freed ∙ subst (λ (v : ℕ). has_rank (comm_in g.comms v).freed m ≡ true) (sym a.0) (settled m (subst (λ (v : ℕ). has_rank (comm_in g.comms v).members m ≡ true) a.0 before)).0
      go (inr a) = freed ∙ j.whole.returned q z (sym (ap (λ (m : Communicator). has_rank m.returned z) a.1) ∙ back) m before

  pub back_under : (q u n i : ℕ) → (thread_in g.ranks q u).wait ≡ Creating n → parent_of (creation_in g.creations n).name ≡ Some i → ParentFits cs i (creation_in g.creations n).group
  back_under q u n i w e =
      let h = j.whole.under q u n i w e in
      let same = other i (λ is. none_under q u n w (e ∙ ap (λ (a : ℕ). Some a) is)) in
      let l = length-set g.comms p (with_returned r (comm_in g.comms p)) in
      let li = h.inside in
      record { inside = omega (arith, li, l); within = λ z m. rw same (h.within z m); held = λ z. rw same (h.held z) }
