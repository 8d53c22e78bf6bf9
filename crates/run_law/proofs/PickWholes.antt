-- A pick keeps what holds of the registry alone, and what each rank knows of communicators.
use Rattle.std.proofs.Common.{◌≡◌, ◌≢◌, ◌⊎◌, ◌<◌, ℕ, ◌==◌, if◌then◌else◌, Bool, true, false, List, length, get_or, Option, Some, None, refl, sym, ◌∙◌, subst, inl, inr, arith}
use Rattle.std.specs.Option.{is_some}
use Rattle.std.specs.List.{list_any}
use Rattle.mpi_base.specs.declared.keys.Key.{Key}
use Rattle.mpi_base.specs.MemberLists.{has_rank}
use Rattle.mpi_law.specs.declared.setting.Setting.{Setting}
use Rattle.mpi_law.specs.Registry.State as reg
use Rattle.mpi_law.specs.Registry.State.{Registry, Communicator, Creation, CreationName, Creating, Outcome, Made, Pick, blank_part, blank_comm}
use Rattle.mpi_law.specs.Registry.Creations.{is_split, is_nil, caller_of, has_called, all_called, called_on, class_of, outcome_for, is_counted_on}
use Rattle.mpi_law.specs.Registry.Contexts.{comm_of}
use Rattle.agree_law.specs.declared.rows.Verdict.{Verdict}
use Rattle.agree_law.specs.declared.rows.Verdict.TheVariants.{Context}
use Rattle.comm_law.specs.declared.rows.CommRow.{CommRow}
use Rattle.mpi_protocol.specs.Rank.{Rank}
use Rattle.run_law.proofs.Rows.{or_else, row_in}
use Rattle.run_law.proofs.Contexts.{Apart, comm_of_is}
use Rattle.due_law.specs.Dues.{Dues, due_said}
use Rattle.run_law.proofs.Threads.{part_row}
use Rattle.run_law.proofs.Creations.{DueFits, creation_in}
use Rattle.run_law.proofs.Comms.{DueComm, CommFits, Comms}
use Rattle.run_law.proofs.Wholes.{Wholes, ParentFits, BackIsFreed, number_in, is_open_row}
use Rattle.run_law.proofs.Frames.{Grown, known-grown, free-grown, parent-grown, group-grown}
use Rattle.run_law.proofs.PickedRows.{called_on-set, outcome_for-pick, open_row-pick}
use Rattle.run_law.proofs.Joined.{rank_in, Joined}
use Rattle.run_law.proofs.Deciding.{Deciding}
use Rattle.due_law.specs.Agreed.{AllOffered}
use Rattle.run_law.proofs.Picking.{pick, picked, rows, row_after, long, due_stays}

module _ (s : Setting) (ranks : List Rank) (due : Dues) (g : Registry) (key : Key) (j : Joined s ranks due g) (a : AllOffered s ranks due key) (d : Deciding s ranks due g key j a)
    (v : Verdict) (out : Outcome) (more : List Communicator) (grown : Grown g.comms more)
    (fits : (q : ℕ) (m : has_rank key.members q ≡ true) → DueFits more q key (d.waiter q m).session (Some v) (Some out)) where
  abbrev after : List Creation
  after = rows s ranks due g key j a d v out more grown fits

  abbrev made : Creation
  made = picked s ranks due g key j a d v out more grown fits

  row_is : (m : ℕ) → ((m ≡ d.place) × (creation_in after m ≡ made)) ⊎ ((m ≢ d.place) × (creation_in after m ≡ creation_in g.creations m))
  row_is m = row_after s ranks due g key j a d v out more grown fits m

  pub counts : (p r : ℕ) → called_on after p r ≡ called_on g.creations p r
  counts p r = called_on-set g.creations d.place made p r refl refl

  -- what a row keeps: its name, its group and its callers
  kept : {A : Type 0} (f : CreationName → List ℕ → List reg.Caller → A) (n : ℕ) → f (creation_in after n).name (creation_in after n).group (creation_in after n).callers ≡ f (creation_in g.creations n).name (creation_in g.creations n).group (creation_in g.creations n).callers
  kept f n = go (row_is n)
    where
      go : ((n ≡ d.place) × (creation_in after n ≡ made)) ⊎ ((n ≢ d.place) × (creation_in after n ≡ creation_in g.creations n)) → f (creation_in after n).name (creation_in after n).group (creation_in after n).callers ≡ f (creation_in g.creations n).name (creation_in g.creations n).group (creation_in g.creations n).callers
      go (inl x) = rw (x.1, x.0) refl
      go (inr x) = rw x.1 refl

  name_kept : (n : ℕ) → (creation_in after n).name ≡ (creation_in g.creations n).name
  name_kept n = kept (λ x y z. x) n

  open_kept : (n : ℕ) → is_open_row (creation_in after n) ≡ true → is_open_row (creation_in g.creations n) ≡ true
  open_kept n h = go (row_is n)
    where
      go : ((n ≡ d.place) × (creation_in after n ≡ made)) ⊎ ((n ≢ d.place) × (creation_in after n ≡ creation_in g.creations n)) → is_open_row (creation_in g.creations n) ≡ true
      go (inl x) = rw x.0 (open_row-pick (creation_in g.creations d.place) (pick s ranks due g key j a d v out more grown fits) (rw x.1 at h))
      go (inr x) = rw x.1 at h

  inside : (n : ℕ) → n < length after → n < length g.creations
  inside n lt = let l = long s ranks due g key j a d v out more grown fits in omega (arith, l, lt)

  -- a communicator of a creation was made before, or now, and is new
  pub record Now (n p : ℕ) : Type 0 where
    pub place : n ≡ d.place
    pub made_is : out ≡ Made p

  made_then : (n r p : ℕ) → outcome_for (creation_in after n) r ≡ Some (Made p) → (outcome_for (creation_in g.creations n) r ≡ Some (Made p)) ⊎ Now n p
  made_then n r p e = go (row_is n)
    where
      last : (o : Option Outcome) (b : Bool) → n ≡ d.place → or_else o (if b then Some out else None) ≡ Some (Made p) → (o ≡ Some (Made p)) ⊎ Now n p
      last (Some z) b q h = inl h
      last None true q h = inr (record { place = q; made_is = cc (h) })
      last None false q h = absurd (cc (h))

      go : ((n ≡ d.place) × (creation_in after n ≡ made)) ⊎ ((n ≢ d.place) × (creation_in after n ≡ creation_in g.creations n)) → (outcome_for (creation_in g.creations n) r ≡ Some (Made p)) ⊎ Now n p
      go (inr x) = inl (rw x.1 at e)
      go (inl x) =
          let f : outcome_for made r ≡ Some (Made p) = rw x.1 at e in
          let z = last (outcome_for (creation_in g.creations d.place) r) (has_rank key.members r) x.0 (sym (outcome_for-pick (creation_in g.creations d.place) (pick s ranks due g key j a d v out more grown fits) r) ∙ f) in
          subst (λ (i : ℕ). (outcome_for (creation_in g.creations i) r ≡ Some (Made p)) ⊎ Now n p) (sym x.0) z

  pub whole_after : ((p : ℕ) → out ≡ Made p → (p ≡ length g.comms) × (p < length more)) → BackIsFreed more → Apart more → Wholes more after g.ranks
  whole_after fresh back apart = record {
    apart = apart;
    one_open = λ n m ln lm e on om. j.whole.one_open n m (inside n ln) (inside m lm) (sym (name_kept n) ∙ (e ∙ name_kept m)) (open_kept n on) (open_kept m om);
    made_inside = λ n r p ln e. made_in n r p ln e;
    made_once = λ n m r p ln lm e f. once n m r p ln lm e f;
    unpicked = λ n ln sp left. not_yet n ln sp left (row_is n);
    for_all = λ n r ln sp m none. all_of n r ln sp m none (row_is n);
    numbered = λ n r p ln on c. (let i = j.whole.numbered n r p (inside n ln) (sym (kept (λ x y z. is_counted_on p x) n) ∙ on) (sym (kept (λ x y z. list_any (λ (k : reg.Caller). k.rank == r) z) n) ∙ c) in let e = counts p r in let f = kept (λ x y z. number_in x) n in omega (arith, i, e, f));
    group_is = λ n ln. rw (kept (λ x y z. x) n, kept (λ x y z. y) n) (group-grown g.comms more grown (creation_in g.creations n).name (creation_in g.creations n).group (j.whole.group_is n (inside n ln)));
    returned = back;
    under = λ r t n p w e. subst (λ (ms : List ℕ). ParentFits more p ms) (sym (kept (λ x y z. y) n)) (parent-grown g.comms more grown p (creation_in g.creations n).group (j.whole.under r t n p w (rw (name_kept n) at e)));
    placed = λ p r le. counts p r ∙ j.whole.placed p r (let l = grown.longer in omega (arith, l, le));
    awaited = λ n r ln o sp c. awaited n r ln o sp c;
  }
    where
      made_in : (n r p : ℕ) → n < length after → outcome_for (creation_in after n) r ≡ Some (Made p) → p < length more
      made_in n r p ln e = go (made_then n r p e)
        where
          go : (outcome_for (creation_in g.creations n) r ≡ Some (Made p)) ⊎ Now n p → p < length more
          go (inl x) = let i = j.whole.made_inside n r p (inside n ln) x in let l = grown.longer in omega (arith, i, l)
          go (inr x) = (fresh p x.made_is).1

      once : (n m r p : ℕ) → n < length after → m < length after → outcome_for (creation_in after n) r ≡ Some (Made p) → outcome_for (creation_in after m) r ≡ Some (Made p) → n ≡ m
      once n m r p ln lm e f = go (made_then n r p e) (made_then m r p f)
        where
          go : (outcome_for (creation_in g.creations n) r ≡ Some (Made p)) ⊎ Now n p → (outcome_for (creation_in g.creations m) r ≡ Some (Made p)) ⊎ Now m p → n ≡ m
          go (inl x) (inl y) = j.whole.made_once n m r p (inside n ln) (inside m lm) x y
          go (inr x) (inr y) = x.place ∙ sym y.place
          go (inl x) (inr y) = absurd (let i = j.whole.made_inside n r p (inside n ln) x in let z = (fresh p y.made_is).0 in omega (arith, i, z))
          go (inr x) (inl y) = absurd (let i = j.whole.made_inside m r p (inside m lm) y in let z = (fresh p x.made_is).0 in omega (arith, i, z))

      not_yet : (n : ℕ) → n < length after → is_split (creation_in after n).name ≡ true → all_called (creation_in after n) ≡ false → ((n ≡ d.place) × (creation_in after n ≡ made)) ⊎ ((n ≢ d.place) × (creation_in after n ≡ creation_in g.creations n)) → is_nil (creation_in after n).picks ≡ true
      not_yet n ln sp left (inr x) = rw x.1 (j.whole.unpicked n (inside n ln) (rw x.1 at sp) (rw x.1 at left))
      not_yet n ln sp left (inl x) = absurd (let a : all_called (creation_in g.creations d.place) ≡ false = rw x.1 at left in let b = d.all in cc (a, b))

      all_of : (n r : ℕ) → n < length after → is_split (creation_in after n).name ≡ false → has_rank (creation_in after n).group r ≡ true → outcome_for (creation_in after n) r ≡ None
          → ((n ≡ d.place) × (creation_in after n ≡ made)) ⊎ ((n ≢ d.place) × (creation_in after n ≡ creation_in g.creations n)) → is_nil (creation_in after n).picks ≡ true
      all_of n r ln sp m none (inr x) = rw x.1 (j.whole.for_all n r (inside n ln) (rw x.1 at sp) (rw x.1 at m) (rw x.1 at none))
      all_of n r ln sp m none (inl x) = absurd (at (has_rank key.members r) refl)
        where
          single : is_split (creation_in g.creations d.place).name ≡ false
          single = rw x.1 at sp

          at : (b : Bool) → has_rank key.members r ≡ b → ⊥
          at true e =
              let got : outcome_for made r ≡ Some out = outcome_for-pick (creation_in g.creations d.place) (pick s ranks due g key j a d v out more grown fits) r ∙ (rw (d.none r e, e) refl) in
              let no : outcome_for made r ≡ None = rw x.1 at none in
              cc (got, no)
          at false e =
              let group : (creation_in g.creations d.place).group ≡ key.members = (let y : class_of (creation_in g.creations d.place) d.first ≡ (creation_in g.creations d.place).group = rw single refl in sym y) ∙ d.class d.first d.first_in in
              let m' : has_rank (creation_in g.creations d.place).group r ≡ true = rw x.1 at m in
              let m'' : has_rank key.members r ≡ true = subst (λ (ms : List ℕ). has_rank ms r ≡ true) group m' in
              cc (m'', e)

      awaited : (n r : ℕ) → n < length after → is_open_row (creation_in after n) ≡ true → is_split (creation_in after n).name ≡ false → has_called (creation_in after n) r ≡ true → (part_row (get_or g.ranks r blank_part).threads (caller_of (creation_in after n).callers r).thread).wait ≡ Creating n
      awaited n r ln o sp c =
          let e = kept (λ x y z. z) n in
          let c' : has_called (creation_in g.creations n) r ≡ true = rw (← kept (λ x y z. list_any (λ (k : reg.Caller). k.rank == r) z) n) c in
          subst (λ (z : List reg.Caller). (part_row (get_or g.ranks r blank_part).threads (caller_of z r).thread).wait ≡ Creating n) (sym e) (j.whole.awaited n r (inside n ln) (open_kept n o) (rw (name_kept n) at sp) c')

  -- what a rank knows of communicators that were there
  due_comm : (q c p : ℕ) → DueComm g.creations q (rank_in ranks q).agree.owner (due q) c p → DueComm after q (rank_in ranks q).agree.owner (due_said due key v q) c p
  due_comm q c p h = record { key = h.key; owns = h.owns; said = due_stays s ranks due g key j a d v out more grown fits q h.key (Context c) h.said; calls = counts p q ∙ h.calls }

  pub comm_after : (q c p : ℕ) (o : Option CommRow) → comm_of g.comms q c ≡ Some p → CommFits g.comms g.creations q (rank_in ranks q).agree.owner (due q) c o (Some p) → CommFits more after q (rank_in ranks q).agree.owner (due_said due key v q) c o (Some p)
  comm_after q c p None e h = due_comm q c p h
  comm_after q c p (Some m) e h = known-grown g.comms more grown g.creations after q m p (comm_of_is g.comms q c p e).inside (counts p q) h

  -- where no communicator is new
  pub same_comms : more ≡ g.comms → Comms s more after g.ranks (due_said due key v) (rank_in ranks)
  same_comms e q = record {
    each = λ c. subst (λ (ms : List Communicator). CommFits more after q (rank_in ranks q).agree.owner (due_said due key v q) c (row_in (rank_in ranks q).comms.rows c) (comm_of ms q c)) (sym e) (go c (row_in (rank_in ranks q).comms.rows c) (comm_of g.comms q c) refl ((j.comms q).each c));
    serials = (j.comms q).serials;
    range = λ c h. (j.comms q).range c (subst (λ (ms : List Communicator). is_some (comm_of ms q c) ≡ true) e h);
    freeing = λ t serial p ew ep. free-grown g.comms more grown (rank_in ranks q).comms.rows (rank_in ranks q).comms.added q serial p ((j.comms q).freeing t serial p ew ep);
  }
    where
      go : (c : ℕ) (o : Option CommRow) (p : Option ℕ) → comm_of g.comms q c ≡ p → CommFits g.comms g.creations q (rank_in ranks q).agree.owner (due q) c o p → CommFits more after q (rank_in ranks q).agree.owner (due_said due key v q) c o p
      go c None None ep h = tt
      go c (Some m) None ep h = h
      go c o (Some p) ep h = comm_after q c p o ep h
