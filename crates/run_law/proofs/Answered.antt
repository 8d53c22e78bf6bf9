-- That a rank is answered is told of its creation; no topic reads it.
use Rattle.std.proofs.Common.{◌≡◌, ◌≢◌, ◌⊎◌, ◌<◌, ℕ, ◌==◌, ◌||◌, List, [], length, get_or, set, Option, Some, None, refl, sym, ap, ◌∙◌, subst, inl, inr, arith, length-set}
use Rattle.std.specs.List.{list_any}
use Rattle.mpi_base.specs.declared.keys.Key.{Key}
use Rattle.mpi_base.specs.MemberLists.{has_rank}
use Rattle.mpi_law.specs.declared.setting.Setting.{Setting}
use Rattle.mpi_law.specs.Local.Objects.{NameRow}
use Rattle.mpi_law.specs.Registry.State as reg
use Rattle.mpi_law.specs.Registry.State.{Registry, Communicator, Creation, CreationName, Pick, Creating, Wait, ThreadPart, RankPart, Outcome, Made, NoneFree, blank_part}
use Rattle.mpi_law.specs.Registry.Creations.{is_split, is_nil, parent_of, caller_of, has_called, all_called, called_on, outcome_for, with_answer, is_counted_on}
use Rattle.mpi_law.specs.Registry.Contexts.{comm_of}
use Rattle.agree_law.specs.declared.rows.Stage.{Stage}
use Rattle.agree_law.specs.declared.rows.Verdict.{Verdict}
use Rattle.comm_law.specs.declared.rows.CommRow.{CommRow}
use Rattle.mpi_protocol.specs.declared.rows.ThreadRow.{ThreadRow}
use Rattle.mpi_protocol.specs.Rank.{Rank}
use Rattle.run_law.proofs.Rows.{row_in}
use Rattle.due_law.specs.Dues.{Dues}
use Rattle.run_law.proofs.Creations.{CreationFits, UncolouredFits, creation_in}
use Rattle.run_law.proofs.Comms.{CommFits, CommsFit}
use Rattle.run_law.proofs.Wholes.{Wholes, ParentFits, number_in}
use Rattle.run_law.proofs.Joined.{Joined}
use Rattle.run_law.proofs.Frames.{grown-refl, creation-grown, uncoloured-grown}
use Rattle.run_law.proofs.PickedRows.{row_set, called_on-set}
use Rattle.run_law.proofs.Parts.{thread_in}

module _ (s : Setting) (ranks : List Rank) (due : Dues) (g : Registry) (r n : ℕ) (j : Joined s ranks due g) (there : n < length g.creations) where
  abbrev pub rows : List Creation
  rows = set g.creations n (with_answer (creation_in g.creations n) r)

  long : length rows ≡ length g.creations
  long = length-set g.creations n (with_answer (creation_in g.creations n) r)

  -- a creation keeps all but who was answered
  kept : {A : Type 0} (f : CreationName → List ℕ → List reg.Caller → List Pick → A) (i : ℕ) → f (creation_in rows i).name (creation_in rows i).group (creation_in rows i).callers (creation_in rows i).picks ≡ f (creation_in g.creations i).name (creation_in g.creations i).group (creation_in g.creations i).callers (creation_in g.creations i).picks
  kept f i = go (row_set g.creations n (with_answer (creation_in g.creations n) r) i there)
    where
      go : ((i ≡ n) × (creation_in rows i ≡ with_answer (creation_in g.creations n) r)) ⊎ ((i ≢ n) × (creation_in rows i ≡ creation_in g.creations i)) → f (creation_in rows i).name (creation_in rows i).group (creation_in rows i).callers (creation_in rows i).picks ≡ f (creation_in g.creations i).name (creation_in g.creations i).group (creation_in g.creations i).callers (creation_in g.creations i).picks
      go (inl z) = rw (z.1, z.0) refl
      go (inr z) = rw z.1 refl

  -- a creation with other answers
  abbrev again : Creation → List ℕ → Creation
  again c answered = record c { answered = answered }

  creation_kept : (q u : ℕ) (k : Key) (to : List ℕ) (from i : ℕ) (known : List CommRow) (names : List NameRow) (v : Option Verdict) (st : Option Stage) → CreationFits g.comms g.creations known names v st q u k to from i → CreationFits g.comms rows known names v st q u k to from i
  creation_kept q u k to from i known names v st f = go (row_set g.creations n (with_answer (creation_in g.creations n) r) i there)
    where
      go : ((i ≡ n) × (creation_in rows i ≡ with_answer (creation_in g.creations n) r)) ⊎ ((i ≢ n) × (creation_in rows i ≡ creation_in g.creations i)) → CreationFits g.comms rows known names v st q u k to from i
      go (inr z) = creation-grown g.comms g.comms (grown-refl g.comms) g.creations rows known names v st q u k to from i (omega (arith, long)) z.1 f
      go (inl z) =
          let row : creation_in rows i ≡ with_answer (creation_in g.creations i) r = z.1 ∙ ap (λ (w : ℕ). with_answer (creation_in g.creations w) r) (sym z.0) in
          record { there = (let b = long in let c = f.there in omega (arith, b, c)); stands = rw row f.stands; caller = rw row f.caller; members = rw row f.members; member = f.member; kind = f.kind; share = rw row f.share; far = rw row f.far }

  uncoloured_kept : (q u : ℕ) (k : Key) (to : List ℕ) (from i : ℕ) → UncolouredFits g.comms g.creations q u k to from i → UncolouredFits g.comms rows q u k to from i
  uncoloured_kept q u k to from i f = go (row_set g.creations n (with_answer (creation_in g.creations n) r) i there)
    where
      go : ((i ≡ n) × (creation_in rows i ≡ with_answer (creation_in g.creations n) r)) ⊎ ((i ≢ n) × (creation_in rows i ≡ creation_in g.creations i)) → UncolouredFits g.comms rows q u k to from i
      go (inr z) = uncoloured-grown g.comms g.comms (grown-refl g.comms) g.creations rows q u k to from i (omega (arith, long)) z.1 f
      go (inl z) =
          let row : creation_in rows i ≡ with_answer (creation_in g.creations i) r = z.1 ∙ ap (λ (w : ℕ). with_answer (creation_in g.creations w) r) (sym z.0) in
          record { there = (let b = long in let c = f.there in omega (arith, b, c)); stands = rw row f.stands; caller = rw row f.caller; exchange = f.exchange; uncoloured = rw row f.uncoloured; all = rw row f.all; none = rw row f.none }

  whole_after : Wholes g.comms rows g.ranks
  whole_after = record {
    apart = j.whole.apart;
    one_open = λ i k li lk e o p. j.whole.one_open i k (in_old i li) (in_old k lk) (sym (kept (λ w x y z. w) i) ∙ (e ∙ kept (λ w x y z. w) k)) (sym (kept (λ w x y z. is_split w || is_nil z) i) ∙ o) (sym (kept (λ w x y z. is_split w || is_nil z) k) ∙ p);
    for_all = λ i q li sp mem none. kept (λ w x y z. is_nil z) i ∙ j.whole.for_all i q (in_old i li) (sym (kept (λ w x y z. is_split w) i) ∙ sp) (sym (kept (λ w x y z. has_rank x q) i) ∙ mem) (sym (kept (λ w x y z. outcome_for (record { name = w; group = x; callers = y; picks = z; answered = [] }) q) i) ∙ none);
    unpicked = λ i li sp left. kept (λ w x y z. is_nil z) i ∙ j.whole.unpicked i (in_old i li) (sym (kept (λ w x y z. is_split w) i) ∙ sp) (sym (kept (λ w x y z. all_called (record { name = w; group = x; callers = y; picks = z; answered = [] })) i) ∙ left);
    made_inside = λ i q p li e. j.whole.made_inside i q p (in_old i li) (sym (kept (λ w x y z. outcome_for (record { name = w; group = x; callers = y; picks = z; answered = [] }) q) i) ∙ e);
    made_once = λ i k q p li lk e f. j.whole.made_once i k q p (in_old i li) (in_old k lk) (sym (kept (λ w x y z. outcome_for (record { name = w; group = x; callers = y; picks = z; answered = [] }) q) i) ∙ e) (sym (kept (λ w x y z. outcome_for (record { name = w; group = x; callers = y; picks = z; answered = [] }) q) k) ∙ f);
    numbered = λ i q p li on c. (let z = j.whole.numbered i q p (in_old i li) (sym (kept (λ w x y z. is_counted_on p w) i) ∙ on) (sym (kept (λ w x y z. list_any (λ (k : reg.Caller). k.rank == q) y) i) ∙ c) in let e = called_on-set g.creations n (with_answer (creation_in g.creations n) r) p q refl refl in let f = kept (λ w x y z. number_in w) i in omega (arith, z, e, f));
    group_is = λ i li. rw (kept (λ w x y z. w) i, kept (λ w x y z. x) i) (j.whole.group_is i (in_old i li));
    returned = j.whole.returned;
    under = λ q u i p w e. subst (λ (ms : List ℕ). ParentFits g.comms p ms) (sym (kept (λ w x y z. x) i)) (j.whole.under q u i p w (sym (kept (λ w x y z. parent_of w) i) ∙ e));
    placed = λ p q le. called_on-set g.creations n (with_answer (creation_in g.creations n) r) p q refl refl ∙ j.whole.placed p q le;
    awaited = λ i q li o sp c. subst (λ (ks : List reg.Caller). (thread_in g.ranks q (caller_of ks q).thread).wait ≡ Creating i) (sym (kept (λ w x y z. y) i)) (j.whole.awaited i q (in_old i li) (sym (kept (λ w x y z. is_split w || is_nil z) i) ∙ o) (sym (kept (λ w x y z. is_split w) i) ∙ sp) (sym (kept (λ w x y z. has_called (record { name = w; group = x; callers = y; picks = z; answered = [] }) q) i) ∙ c));
  }
    where
      in_old : (i : ℕ) → i < length rows → i < length g.creations
      in_old i li = let e = long in omega (arith, li, e)

  comms_at : (q : ℕ) (known : List CommRow) (added : ℕ) (owns : Option Key) (threads : List ThreadRow) → CommsFit s.contexts g.comms g.creations (get_or g.ranks q blank_part).threads q known added owns (due q) threads
      → CommsFit s.contexts g.comms rows (get_or g.ranks q blank_part).threads q known added owns (due q) threads
  comms_at q known added owns threads f = record { each = λ c. each c (row_in known c) (comm_of g.comms q c) (f.each c); range = f.range; freeing = f.freeing; serials = f.serials }
    where
      counts : (p : ℕ) → called_on rows p q ≡ called_on g.creations p q
      counts p = called_on-set g.creations n (with_answer (creation_in g.creations n) r) p q refl refl

      each : (c : ℕ) (o : Option CommRow) (p : Option ℕ) → CommFits g.comms g.creations q owns (due q) c o p → CommFits g.comms rows q owns (due q) c o p
      each c None None h = tt
      each c (Some m) None h = h
      each c None (Some p) h = record { key = h.key; owns = h.owns; said = h.said; calls = counts p ∙ h.calls }
      each c (Some m) (Some p) h = record { members = h.members; session = h.session; calls = h.calls ∙ sym (counts p); stage = h.stage }

  pub answered_joined : Joined s ranks due (record g { creations = rows })
  answered_joined = record {
    sizes = record { ranks_are = j.sizes.ranks_are; parts_are = j.sizes.parts_are; number = j.sizes.number; setting = j.sizes.setting };
    locals = j.locals;
    threads = j.threads;
    masks = j.masks;
    creations = record {
      each = λ q u k to from i fw fp. creation_kept q u k to from i _ _ _ _ (j.creations.each q u k to from i fw fp);
      uncoloured = λ q u k to from i fw fp. uncoloured_kept q u k to from i (j.creations.uncoloured q u k to from i fw fp);
    };
    comms = λ q. comms_at q _ _ _ _ (j.comms q);
    whole = whole_after;
  }
