-- What an open key stands for, from what is kept of creations and threads.
use Rattle.std.proofs.Common.{◌≡◌, ◌<◌, ℕ, Bool, true, false, List, length, Option, Some, None, refl, sym, ap, ◌∙◌, arith}
use Rattle.std.specs.Option.{is_some}
use Rattle.mpi_base.specs.MemberLists.{has_rank}
use Rattle.mpi_base.specs.declared.keys.Key.{Key}
use Rattle.mpi_base.proofs.KeyFacts.{same_key-refl}
use Rattle.mpi_law.specs.declared.setting.Setting.{Setting}
use Rattle.mpi_law.specs.Registry.State.{Registry, Communicator, Creation, Outcome, Made, NoneFree, creation_at}
use Rattle.mpi_law.specs.Registry.Creations.{is_split, outcome_for, place_where, is_pickable}
use Rattle.mpi_law.specs.Registry.Contexts.{place_of_name, is_exchange}
use Rattle.agree_law.specs.declared.rows.Outcome.{Outcome as Ended}
use Rattle.agree_law.specs.declared.rows.Outcome.TheVariants as ended
use Rattle.agree_law.specs.declared.rows.Stage.{Stage}
use Rattle.agree_law.specs.declared.rows.Stage.TheVariants.{Sharing, Called, Waiting, Offered, Done}
use Rattle.agree_law.specs.declared.rows.Verdict.{Verdict}
use Rattle.agree_law.specs.Part.{stage_of}
use Rattle.comm_law.specs.declared.rows.CommRow.{CommRow}
use Rattle.mpi_law.specs.Local.Objects.{NameRow}
use Rattle.mpi_protocol.specs.declared.rows.Waits.{Waits}
use Rattle.mpi_protocol.specs.declared.rows.Waits.TheVariants.{Nothing, Creation as Creates, Uncoloured, Freeing, Ending, Receiving, Awaiting}
use Rattle.mpi_protocol.specs.Rank.{thread_at}
use Rattle.mpi_protocol.specs.World.{World, rank_at}
use Rattle.due_law.specs.Dues.{Dues}
use Rattle.run_law.proofs.Contexts.{comm_of_is}
use Rattle.run_law.proofs.Threads.{is_for, row_of}
use Rattle.run_law.proofs.Creations.{creation_in, StageFits, DoneFits, MembersFit}
use Rattle.run_law.proofs.Wholes.{is_open_row}
use Rattle.run_law.proofs.Names.{stands_at}
use Rattle.run_law.proofs.Classes.{class_within}
use Rattle.run_law.proofs.Allowing.{same_name_is, same_name-refl, where_le, where_is}
use Rattle.run_law.proofs.Joined.{rank_in, Joined}
use Rattle.run_law.proofs.Waiters.{waiter_of, one_waiter}
use Rattle.registry_law.specs.Keys.{waits_under, HasMembers, IsPicked, StageTells, Stands}

-- the two ways to say that a thread waits under a key
for_is_under : (key : Key) (w : Waits) → is_for key w ≡ waits_under key w
for_is_under key Nothing = refl
for_is_under key (Creates k target session) = refl
for_is_under key (Uncoloured k target session) = refl
for_is_under key (Freeing serial) = refl
for_is_under key (Ending session) = refl
for_is_under key (Receiving number) = refl
for_is_under key (Awaiting name) = refl

-- a decided key
is_picked : (comms : List Communicator) (rows : List CommRow) (names : List NameRow) (r : ℕ) (key : Key) (session : ℕ) (d : Ended) (o : Option Outcome) → DoneFits comms rows names r key session d o → IsPicked comms d o
is_picked comms rows names r key session (ended.Context c) None h = h
is_picked comms rows names r key session (ended.Context c) (Some (Made p)) h = (comm_of_is comms r c p h.0.stands).context
is_picked comms rows names r key session (ended.Context c) (Some NoneFree) h = h
is_picked comms rows names r key session ended.Exhausted None h = h
is_picked comms rows names r key session ended.Exhausted (Some (Made p)) h = h
is_picked comms rows names r key session ended.Exhausted (Some NoneFree) h = tt

stage_tells : (comms : List Communicator) (rows : List CommRow) (names : List NameRow) (r : ℕ) (key : Key) (session : ℕ) (due : Option Verdict) (stage : Option Stage) (o : Option Outcome) → StageFits comms rows names r key session due stage o → StageTells comms stage o
stage_tells comms rows names r key session due None o h = h
stage_tells comms rows names r key session due (Some (Sharing s)) o h = h.1
stage_tells comms rows names r key session due (Some Called) o h = h.1
stage_tells comms rows names r key session due (Some (Waiting i)) o h = h.1
stage_tells comms rows names r key session due (Some (Offered i own)) o h = tt
stage_tells comms rows names r key session due (Some (Done d)) o h = is_picked comms rows names r key session d o h.1

has_members : (c : Creation) (r : ℕ) (key : Key) (exchange : Bool) → MembersFit c r key exchange → HasMembers c r key exchange
has_members c r key true h = sym h
has_members c r key false h = sym h.0

module _ (s : Setting) (w : World) (due : Dues) (g : Registry) (j : Joined s w.ranks due g) where
  -- a creation of which a member's class, or all members, are those of a key
  in_group : (n r q : ℕ) (key : Key) → HasMembers (creation_at g n) r key (is_exchange key.kind) → has_rank key.members q ≡ true → has_rank (creation_at g n).group q ≡ true
  in_group n r q key h m = go (is_exchange key.kind) h
    where
      go : (b : Bool) → HasMembers (creation_at g n) r key b → has_rank (creation_at g n).group q ≡ true
      go true h = rw h at m
      go false h = class_within (creation_at g n) r q (rw h at m)

  -- it may still be picked
  open_row : (n r : ℕ) → n < length g.creations → has_rank (creation_at g n).group r ≡ true → outcome_for (creation_at g n) r ≡ None → is_open_row (creation_at g n) ≡ true
  open_row n r ln member none = go (is_split (creation_at g n).name) refl
    where
      go : (b : Bool) → is_split (creation_at g n).name ≡ b → is_open_row (creation_at g n) ≡ true
      go true e = rw e refl
      go false e = rw e (j.whole.for_all n r ln e member none)

  -- so it is the one that a pick of its name speaks of
  first_of_name : (n : ℕ) → n < length g.creations → is_open_row (creation_at g n) ≡ true → place_where (is_pickable (creation_at g n).name) g.creations ≡ n
  first_of_name n ln opened = j.whole.one_open place n inside ln (same_name_is (creation_in g.creations place).name (creation_at g n).name (grind (arith, p))) (grind (arith, p)) opened
    where
      place : ℕ
      place = place_where (is_pickable (creation_at g n).name) g.creations

      inside : place < length g.creations
      inside =
          let own = same_name-refl (creation_at g n).name in
          let le = where_le (is_pickable (creation_at g n).name) g.creations n ln (grind (arith, own, opened)) in
          omega (arith, le, ln)

      p : is_pickable (creation_at g n).name (creation_in g.creations place) ≡ true
      p = where_is (is_pickable (creation_at g n).name) g.creations inside

  pub stands : (r : ℕ) (key : Key) → is_some (stage_of (rank_at w r).agree.opened key) ≡ true → Stands w g r key
  stands r key e =
      let z = waiter_of s w.ranks due g j r key e in
      let fits = z.fits in
      let members = has_members (creation_at g z.place) r key (is_exchange key.kind) fits.members in
      let under : waits_under key (thread_at (rank_at w r) z.thread).waits ≡ true = ap (waits_under key) z.waits ∙ same_key-refl key in
      record {
        place = z.place;
        there = fits.there;
        name = fits.stands;
        members = members;
        member = fits.member;
        called = fits.caller.called;
        thread = z.thread;
        inside = z.inside;
        waits = under;
        alone = λ u lu h. one_waiter s w.ranks due g j r key u z.thread lu z.inside (for_is_under key (row_of (rank_in w.ranks r).threads u).waits ∙ h) (for_is_under key (row_of (rank_in w.ranks r).threads z.thread).waits ∙ under);
        awaited = z.part_waits;
        stage = stage_tells g.comms _ _ r key z.session _ _ _ fits.far;
        pick = λ none. ap (place_of_name g.creations) fits.stands ∙ first_of_name z.place fits.there (open_row z.place r fits.there (in_group z.place r r key members fits.member) none);
      }

  -- what a key stands for at two ranks, of which nothing is picked for either, is one creation
  pub one_creation : (r q : ℕ) (key : Key) (a : Stands w g r key) (b : Stands w g q key) → outcome_for (creation_at g a.place) r ≡ None → outcome_for (creation_at g b.place) q ≡ None → a.place ≡ b.place
  one_creation r q key a b na nb =
      let there = stands_at g.comms r q key (creation_at g a.place).name (creation_at g a.place).group j.whole.apart a.name (λ p e. j.whole.under r a.thread a.place p a.awaited e) (in_group a.place r q key a.members b.member) in
      let same : Some (creation_at g a.place).name ≡ Some (creation_at g b.place).name = sym there ∙ b.name in
      j.whole.one_open a.place b.place a.there b.there (cc (same))
      (open_row a.place r a.there (in_group a.place r r key a.members a.member) na)
      (open_row b.place q b.there (in_group b.place q q key b.members b.member) nb)
