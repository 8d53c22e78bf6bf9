-- A pick: what it leaves of each topic, with every rank as it was.
use Rattle.std.proofs.Common.{◌≡◌, ◌≢◌, ◌⊎◌, ℕ, ◌&&◌, if◌then◌else◌, Bool, true, false, List, length, get_or, set, Option, Some, None, refl, sym, ap, ◌∙◌, subst, inl, inr, arith, length-set}
use Rattle.mpi_base.specs.declared.keys.Key.{Key}
use Rattle.mpi_base.specs.Keys.{same_key}
use Rattle.mpi_base.specs.MemberLists.{has_rank}
use Rattle.mpi_base.proofs.KeyFacts.{same_key_is, same_key-refl}
use Rattle.mpi_law.specs.declared.setting.Setting.{Setting}
use Rattle.mpi_law.specs.Registry.State.{Registry, Communicator, Creation, Creating, Outcome, Pick, blank_part}
use Rattle.mpi_law.specs.Registry.Creations.{outcome_for, with_pick, is_uncoloured, class_of}
use Rattle.agree_law.specs.declared.rows.Stage.{Stage}
use Rattle.agree_law.specs.declared.rows.Stage.TheVariants.{Offered}
use Rattle.agree_law.specs.declared.rows.Verdict.{Verdict}
use Rattle.agree_law.specs.Part.{stage_of}
use Rattle.mpi_protocol.specs.declared.rows.Waits.TheVariants.{Creation as Creates, Uncoloured}
use Rattle.mpi_protocol.specs.Rank.{Rank}
use Rattle.run_law.proofs.Rows.{or_else_none}
use Rattle.due_law.specs.Dues.{Dues, due_said}
use Rattle.run_law.proofs.Threads.{row_of, part_row, is_for}
use Rattle.run_law.proofs.Creations.{DueFits, StageFits, CreationFits, UncolouredFits, Creations, creation_in}
use Rattle.run_law.proofs.Names.{stands_on}
use Rattle.run_law.proofs.Frames.{Grown, creation-grown, uncoloured-grown, stage-grown}
use Rattle.run_law.proofs.PickedRows.{row_set, outcome_for-pick}
use Rattle.run_law.proofs.Classes.{coloured}
use Rattle.run_law.proofs.Joined.{rank_in, Joined}
use Rattle.run_law.proofs.Waiters.{one_thread, one_waiter, thread_inside}
use Rattle.run_law.proofs.Deciding.{Deciding}
use Rattle.due_law.specs.Agreed.{AllOffered}

module _ (s : Setting) (ranks : List Rank) (due : Dues) (g : Registry) (key : Key) (j : Joined s ranks due g) (a : AllOffered s ranks due key) (d : Deciding s ranks due g key j a)
    (v : Verdict) (out : Outcome) (more : List Communicator) (grown : Grown g.comms more)
    (fits : (q : ℕ) (m : has_rank key.members q ≡ true) → DueFits more q key (d.waiter q m).session (Some v) (Some out)) where
  abbrev pub pick : Pick
  pick = record { members = key.members; outcome = out }

  abbrev pub picked : Creation
  picked = with_pick (creation_in g.creations d.place) pick

  abbrev pub rows : List Creation
  rows = set g.creations d.place picked

  pub row_after : (m : ℕ) → ((m ≡ d.place) × (creation_in rows m ≡ picked)) ⊎ ((m ≢ d.place) × (creation_in rows m ≡ creation_in g.creations m))
  row_after m = row_set g.creations d.place picked m d.there

  pub long : length rows ≡ length g.creations
  long = length-set g.creations d.place picked

  -- what was due stays due, but at a member under the key, where nothing was
  pub due_stays : (q : ℕ) (k : Key) (w : Verdict) → due q k ≡ Some w → due_said due key v q k ≡ Some w
  due_stays q k w e = go (same_key key k) (has_rank key.members q) refl refl
    where
      go : (x y : Bool) → same_key key k ≡ x → has_rank key.members q ≡ y → (if x && y then Some v else due q k) ≡ Some w
      go false y ex ey = e
      go true false ex ey = e
      go true true ex ey =
          let n = (a.each q ey).none in
          let is = same_key_is key k ex in
          let z : due q k ≡ None = subst (λ (i : Key). due q i ≡ None) is n in
          absurd (cc (z, e))

  -- Creations

  -- the creation that was picked, at a member
  mine : (r t : ℕ) (k : Key) (target : List ℕ) (session : ℕ) (m : has_rank key.members r ≡ true) → (row_of (rank_in ranks r).threads t).waits ≡ Creates k target session → (part_row (get_or g.ranks r blank_part).threads t).wait ≡ Creating d.place → creation_in rows d.place ≡ picked
      → CreationFits more rows (rank_in ranks r).comms.rows (rank_in ranks r).local.names (due_said due key v r k) (stage_of (rank_in ranks r).agree.opened k) r t k target session d.place
  mine r t k target session m ew ep row =
      let h = j.creations.each r t k target session d.place ew ep in
      let w = d.waiter r m in
      let x = subst (λ (i : ℕ). (row_of (rank_in ranks r).threads i).waits ≡ Creates key w.target w.session) (one_thread s ranks due g j r t key k target session d.place w ew ep (d.is r m)) w.waits in
      let is : key ≡ k = cc (x, ew) in
      let to : w.session ≡ session = cc (x, ew) in
      let far = far_at (stage_of (rank_in ranks r).agree.opened key) ((a.each r m).stage) in
      record {
        there = (let l = long in let i = h.there in omega (arith, l, i));
        stands = rw row (stands_on g.comms more r k (creation_in g.creations d.place).name (grown.stays r) h.stands);
        caller = rw row h.caller;
        members = rw row h.members;
        member = h.member;
        kind = h.kind;
        share = rw row h.share;
        far = rw row (subst (λ (i : Key). StageFits more (rank_in ranks r).comms.rows (rank_in ranks r).local.names r i session (due_said due key v r i) (stage_of (rank_in ranks r).agree.opened i) (outcome_for picked r)) is
            (subst (λ (i : ℕ). StageFits more (rank_in ranks r).comms.rows (rank_in ranks r).local.names r key i (due_said due key v r key) (stage_of (rank_in ranks r).agree.opened key) (outcome_for picked r)) to far));
      }
    where
      far_at : (st : Option Stage) → st ≡ Some (Offered (a.each r m).round true) → StageFits more (rank_in ranks r).comms.rows (rank_in ranks r).local.names r key (d.waiter r m).session (due_said due key v r key) st (outcome_for picked r)
      far_at st e =
          let said : due_said due key v r key ≡ Some v = let k = same_key-refl key in rw (k, m) refl in
          let got : outcome_for picked r ≡ Some out = outcome_for-pick (creation_in g.creations d.place) pick r ∙ (rw (d.none r m, m) refl) in
          rw (e, said, got) (fits r m)

  -- at any other rank, of another class
  other : (r t : ℕ) (k : Key) (target : List ℕ) (session : ℕ) → has_rank key.members r ≡ false → (row_of (rank_in ranks r).threads t).waits ≡ Creates k target session → (part_row (get_or g.ranks r blank_part).threads t).wait ≡ Creating d.place → creation_in rows d.place ≡ picked
      → CreationFits more rows (rank_in ranks r).comms.rows (rank_in ranks r).local.names (due_said due key v r k) (stage_of (rank_in ranks r).agree.opened k) r t k target session d.place
  other r t k target session m ew ep row =
      let h = j.creations.each r t k target session d.place ew ep in
      let said : due_said due key v r k ≡ due r k = rw m (go (same_key key k)) in
      let got : outcome_for picked r ≡ outcome_for (creation_in g.creations d.place) r = outcome_for-pick (creation_in g.creations d.place) pick r ∙ (rw m (or_else_none (outcome_for (creation_in g.creations d.place) r))) in
      record {
        there = (let l = long in let i = h.there in omega (arith, l, i));
        stands = rw row (stands_on g.comms more r k (creation_in g.creations d.place).name (grown.stays r) h.stands);
        caller = rw row h.caller;
        members = rw row h.members;
        member = h.member;
        kind = h.kind;
        share = rw row h.share;
        far = rw (row, said, got) (stage-grown g.comms more grown (rank_in ranks r).comms.rows (rank_in ranks r).local.names r k session (due r k) (stage_of (rank_in ranks r).agree.opened k) (outcome_for (creation_in g.creations d.place) r) h.far);
      }
    where
      go : (b : Bool) → (if b && false then Some v else due r k) ≡ due r k
      go true = refl
      go false = refl

  -- any other creation
  apart : (r t : ℕ) (k : Key) (target : List ℕ) (session n : ℕ) → n ≢ d.place → (row_of (rank_in ranks r).threads t).waits ≡ Creates k target session → (part_row (get_or g.ranks r blank_part).threads t).wait ≡ Creating n → creation_in rows n ≡ creation_in g.creations n
      → CreationFits more rows (rank_in ranks r).comms.rows (rank_in ranks r).local.names (due_said due key v r k) (stage_of (rank_in ranks r).agree.opened k) r t k target session n
  apart r t k target session n ne ew ep row = go (same_key key k) (has_rank key.members r) refl refl
    where
      kept : CreationFits more rows (rank_in ranks r).comms.rows (rank_in ranks r).local.names (due r k) (stage_of (rank_in ranks r).agree.opened k) r t k target session n
      kept = creation-grown g.comms more grown g.creations rows (rank_in ranks r).comms.rows (rank_in ranks r).local.names (due r k) (stage_of (rank_in ranks r).agree.opened k) r t k target session n (omega (arith, long)) row (j.creations.each r t k target session n ew ep)

      go : (x y : Bool) → same_key key k ≡ x → has_rank key.members r ≡ y → CreationFits more rows (rank_in ranks r).comms.rows (rank_in ranks r).local.names (if x && y then Some v else due r k) (stage_of (rank_in ranks r).agree.opened k) r t k target session n
      go false y ex ey = kept
      go true false ex ey = kept
      go true true ex ey =
          let w = d.waiter r ey in
          let is = same_key_is key k ex in
          let on : is_for key (row_of (rank_in ranks r).threads t).waits ≡ true = rw (ew, ← is) (same_key-refl key) in
          let on' : is_for key (row_of (rank_in ranks r).threads w.thread).waits ≡ true = rw w.waits (same_key-refl key) in
          let same = one_waiter s ranks due g j r key w.thread t w.inside (thread_inside s ranks due g j r t n ep) on' on in
          let here : (part_row (get_or g.ranks r blank_part).threads t).wait ≡ Creating w.place = subst (λ (i : ℕ). (part_row (get_or g.ranks r blank_part).threads i).wait ≡ Creating w.place) same w.part_waits in
          let place : w.place ≡ n = cc (here, ep) in
          absurd (ne (sym place ∙ d.is r ey))

  pub creations_after : Creations more rows g.ranks (due_said due key v) (rank_in ranks)
  creations_after = record { each = each; uncoloured = uncoloured }
    where
      each : (r t : ℕ) (k : Key) (target : List ℕ) (session n : ℕ) → (row_of (rank_in ranks r).threads t).waits ≡ Creates k target session → (part_row (get_or g.ranks r blank_part).threads t).wait ≡ Creating n → CreationFits more rows (rank_in ranks r).comms.rows (rank_in ranks r).local.names (due_said due key v r k) (stage_of (rank_in ranks r).agree.opened k) r t k target session n
      each r t k target session n ew ep = go (row_after n)
        where
          at : (m : Bool) → has_rank key.members r ≡ m → (part_row (get_or g.ranks r blank_part).threads t).wait ≡ Creating d.place → creation_in rows d.place ≡ picked → CreationFits more rows (rank_in ranks r).comms.rows (rank_in ranks r).local.names (due_said due key v r k) (stage_of (rank_in ranks r).agree.opened k) r t k target session d.place
          at true m ep row = mine r t k target session m ew ep row
          at false m ep row = other r t k target session m ew ep row

          go : ((n ≡ d.place) × (creation_in rows n ≡ picked)) ⊎ ((n ≢ d.place) × (creation_in rows n ≡ creation_in g.creations n)) → CreationFits more rows (rank_in ranks r).comms.rows (rank_in ranks r).local.names (due_said due key v r k) (stage_of (rank_in ranks r).agree.opened k) r t k target session n
          go (inl x) = subst (λ (i : ℕ). CreationFits more rows (rank_in ranks r).comms.rows (rank_in ranks r).local.names (due_said due key v r k) (stage_of (rank_in ranks r).agree.opened k) r t k target session i) (sym x.0)
              (at (has_rank key.members r) refl (subst (λ (i : ℕ). (part_row (get_or g.ranks r blank_part).threads t).wait ≡ Creating i) x.0 ep) (subst (λ (i : ℕ). creation_in rows i ≡ picked) x.0 x.1))
          go (inr x) = apart r t k target session n x.0 ew ep x.1

      uncoloured : (r t : ℕ) (k : Key) (target : List ℕ) (session n : ℕ) → (row_of (rank_in ranks r).threads t).waits ≡ Uncoloured k target session → (part_row (get_or g.ranks r blank_part).threads t).wait ≡ Creating n → UncolouredFits more rows r t k target session n
      uncoloured r t k target session n ew ep = go (row_after n) (j.creations.uncoloured r t k target session n ew ep)
        where
          -- a rank without a colour is in no class
          outside : n ≡ d.place → is_uncoloured (creation_in g.creations n) r ≡ true → has_rank key.members r ≡ false
          outside is u = at (has_rank key.members r) refl
            where
              at : (b : Bool) → has_rank key.members r ≡ b → has_rank key.members r ≡ false
              at false e = e
              at true e = absurd (let z = coloured (creation_in g.creations n) r key.members (subst (λ (i : ℕ). class_of (creation_in g.creations i) r ≡ key.members) (sym is) (d.class r e)) e in cc (z, u))

          go : ((n ≡ d.place) × (creation_in rows n ≡ picked)) ⊎ ((n ≢ d.place) × (creation_in rows n ≡ creation_in g.creations n)) → UncolouredFits g.comms g.creations r t k target session n → UncolouredFits more rows r t k target session n
          go (inr x) h = uncoloured-grown g.comms more grown g.creations rows r t k target session n (omega (arith, long)) x.1 h
          go (inl x) h =
              let row : creation_in rows n ≡ with_pick (creation_in g.creations n) pick = x.1 ∙ ap (λ (i : ℕ). with_pick (creation_in g.creations i) pick) (sym x.0) in
              record {
                there = (let l = long in let i = h.there in omega (arith, l, i));
                stands = rw row (stands_on g.comms more r k (creation_in g.creations n).name (grown.stays r) h.stands);
                caller = rw row h.caller;
                exchange = h.exchange;
                uncoloured = rw row h.uncoloured;
                all = rw row h.all;
                none = rw row (outcome_for-pick (creation_in g.creations n) pick r ∙ (rw (h.none, outside x.0 h.uncoloured) refl));
              }
