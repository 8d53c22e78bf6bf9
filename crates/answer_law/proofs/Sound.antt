-- What holds after each event of a run: the topics of communicators, names and creations, and that each pick of a creation came
-- by an event of its own.
use Rattle.std.proofs.Common.{◌≡◌, ℕ, zero, suc, true, arith, List, [], ◌∷◌, ◌++◌, get_or, replicate, refl, ap, ◌∙◌, subst, append_assoc}
use Rattle.std.specs.List.{AllByRecursion}
use Rattle.mpi_base.specs.declared.keys.Key.{Key}
use Rattle.mpi_law.specs.declared.setting.Setting.{Setting}
use Rattle.mpi_law.specs.Registry.State.{Registry, Communicator, Pick, Creation, blank_part, creation_at, registry_opening}
use Rattle.mpi_law.specs.Registry.Creations.{all_called, class_of}
use Rattle.mpi_law.specs.Registry.Contexts.{key_place}
use Rattle.mpi_law.specs.Registry.Events.{Event, Picks, registry_next}
use Rattle.mpi_law.specs.Registry.Runs.{Allowed}
use Rattle.answer_law.specs.Answers.{registry_at}
use Rattle.answer_law.proofs.Lists.{all_both, all_snoc}
use Rattle.answer_law.proofs.Comms.{Grows, Apart}
use Rattle.answer_law.proofs.Names.{Named, named_grows, member_grows}
use Rattle.answer_law.proofs.Creations.{context_of, context_grows, PickFits, Fits, fits_blank, fits_grows, fits_joined, fits_answered, fits_picked, fits_opened, joinable_is}
use Rattle.answer_law.proofs.Changes.{Change, same, joins, opens, picks, notes, comms_grow, apart_next, made_member, named_after, change}

-- a pick of the creation at a place came by an event
pub record Came (s : Setting) (events : List Event) (comms : List Communicator) (n : ℕ) (k : Pick) : Type 0 where
  pub rank : ℕ
  pub key : Key
  pub before : List Event
  pub after : List Event
  pub here : events ≡ before ++ Picks rank key (context_of comms k.outcome) ∷ after
  pub place : key_place (registry_at s before) rank key ≡ n
  pub members : key.members ≡ k.members
  pub allowed : Allowed s (registry_at s before) (Picks rank key (context_of comms k.outcome))

pub record Sound (s : Setting) (events : List Event) (g : Registry) : Type 0 where
  pub named : Named g.comms g.ranks
  pub apart : Apart g.comms
  pub fits : (n : ℕ) → Fits g.comms (creation_at g n)
  pub came : (n : ℕ) → AllByRecursion (Came s events g.comms n) (creation_at g n).picks

fits_next : (s : Setting) (g new : Registry) (e : Event) (n : ℕ) → Grows g.comms new.comms → Fits g.comms (creation_at g n) → Change s g e new.comms n (creation_at new n) → Fits new.comms (creation_at new n)
fits_next s g new e n grows f ch = go (creation_at new n) ch
  where
    c : Creation
    c = creation_at g n

    grown : Fits new.comms c
    grown = fits_grows g.comms new.comms c grows f

    go : (d : Creation) → Change s g e new.comms n d → Fits new.comms d
    go d (same is) = rw is grown
    go d (joins name k j is by) = rw is (fits_joined new.comms c k (joinable_is g.comms name c j f).0 grown)
    go d (opens r o k blank inside is by) = rw is (fits_grows g.comms new.comms _ grows (fits_opened g r o k inside))
    go d (picks r key o event may place made is) =
        let m = subst (λ (i : ℕ). all_called (creation_at g i) ≡ true) place may.all in
        rw is (fits_picked new.comms c r (record { members = key.members; outcome = o }) m (subst (λ (i : ℕ). class_of (creation_at g i) r ≡ key.members) place may.members) made grown)
    go d (notes r is) = rw is (fits_answered new.comms c r grown)

module _ (s : Setting) (before : List Event) where
  abbrev now : Registry
  now = registry_at s before

  came_on : (e : Event) (new : List Communicator) (n : ℕ) → Grows now.comms new → (c : Creation) (k : Pick) → PickFits now.comms c k → Came s before now.comms n k → Came s (before ++ e ∷ []) new n k
  came_on e new n grows c k f h = record {
    rank = h.rank;
    key = h.key;
    before = h.before;
    after = h.after ++ e ∷ [];
    here = rw context (ap (λ (es : List Event). es ++ e ∷ []) h.here ∙ append_assoc h.before _ _);
    place = h.place;
    members = h.members;
    allowed = rw context h.allowed;
  }
    where
      context : context_of new k.outcome ≡ context_of now.comms k.outcome
      context = context_grows now.comms new grows k.members k.outcome f.made

  came_next : (e : Event) → Allowed s now e → (new : Registry) (n : ℕ) → Grows now.comms new.comms → Fits now.comms (creation_at now n) → AllByRecursion (Came s before now.comms n) (creation_at now n).picks → Change s now e new.comms n (creation_at new n)
      → AllByRecursion (Came s (before ++ e ∷ []) new.comms n) (creation_at new n).picks
  came_next e a new n grows f h ch = go (creation_at new n) ch
    where
      c : Creation
      c = creation_at now n

      grown : AllByRecursion (Came s (before ++ e ∷ []) new.comms n) c.picks
      grown = all_both (PickFits now.comms c) (Came s before now.comms n) (Came s (before ++ e ∷ []) new.comms n) c.picks (came_on e new.comms n grows c) f.picks h

      go : (d : Creation) → Change s now e new.comms n d → AllByRecursion (Came s (before ++ e ∷ []) new.comms n) d.picks
      go d (same is) = rw is grown
      go d (joins name k j is by) = rw is grown
      go d (opens r o k blank inside is by) = rw is tt
      go d (picks r key o event may place made is) = rw is (all_snoc (Came s (before ++ e ∷ []) new.comms n) c.picks (record { members = key.members; outcome = o }) grown (record {
        rank = r;
        key = key;
        before = before;
        after = [];
        here = ap (λ (x : Event). before ++ x ∷ []) event;
        place = place;
        members = refl;
        allowed = subst (Allowed s now) event a;
      }))
      go d (notes r is) = rw is grown

  pub sound_next : (e : Event) → Allowed s now e → Sound s before now → Sound s (before ++ e ∷ []) (registry_next s now e)
  sound_next e a h = record {
    named = named_after s now e new.comms a (λ n r p is. member_grows now.comms new.comms r p grows (made_member now.comms (creation_at now n) r p (h.fits n) is)) (named_grows now.comms new.comms now.ranks grows h.named);
    apart = apart_next s now e a h.apart;
    fits = λ n. fits_next s now new e n grows (h.fits n) (change s now h.named n e a);
    came = λ n. came_next e a new n grows (h.fits n) (h.came n) (change s now h.named n e a);
  }
    where
      new : Registry
      new = registry_next s now e

      grows : Grows now.comms new.comms
      grows = comms_grow s now e a

-- at the opening

pub blank_at : (n q : ℕ) → get_or (replicate n blank_part) q blank_part ≡ blank_part
blank_at zero q = refl
blank_at (suc n) zero = refl
blank_at (suc n) (suc q) = blank_at n q

pub sound_opening : (s : Setting) → Sound s [] (registry_opening s)
sound_opening s = record {
  named = λ q. rw (blank_at s.ranks q) tt;
  apart = λ p q r lp lq a b e. absurd (omega (arith, lp));
  fits = λ n. fits_blank [];
  came = λ n. tt;
}
