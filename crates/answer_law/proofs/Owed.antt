-- What a rank is owed of a creation, it goes on to be owed.
use Rattle.std.proofs.Common.{◌≡◌, ℕ, if◌then◌else◌, Bool, true, false, List, [], ◌∷◌, ◌++◌, length, find, Option, Some, None, option_map, refl, ap, ◌∙◌}
use Rattle.std.proofs.lemmas.List.Folds.{find-append}
use Rattle.mpi_base.specs.MemberLists.{has_rank}
use Rattle.mpi_base.specs.declared.replies.Reply.{Reply}
use Rattle.mpi_base.specs.declared.replies.Reply.TheVariants as reply
use Rattle.mpi_law.specs.declared.setting.Setting.{Setting}
use Rattle.mpi_law.specs.Registry.State.{Registry, Outcome, Made, NoneFree, Pick, Creation, blank_creation, comm_at, creation_at, place_in}
use Rattle.mpi_law.specs.Registry.Creations.{is_split, is_uncoloured, all_called, class_of, outcome_for, with_pick}
use Rattle.mpi_law.specs.Registry.Replies.{outcome_reply, owed_creation}
use Rattle.mpi_law.specs.Registry.Events.{Event}
use Rattle.answer_law.proofs.Lists.{all_any}
use Rattle.answer_law.proofs.Comms.{Grows}
use Rattle.answer_law.proofs.Creations.{IsMade, Fits, pick_of, joinable_is}
use Rattle.answer_law.proofs.Changes.{Change, same, joins, opens, picks, notes}

abbrev owed_by : Registry → ℕ → Bool → Bool → Option Outcome → Option Reply
owed_by g r uncoloured all o = if uncoloured then (if all then Some reply.Null else None) else option_map (outcome_reply g r) o

pub reply_grows : (g new : Registry) (r : ℕ) (members : List ℕ) → Grows g.comms new.comms → (o : Outcome) → IsMade g.comms members o → outcome_reply new r o ≡ outcome_reply g r o
reply_grows g new r members grows NoneFree h = refl
reply_grows g new r members grows (Made p) h =
    let c = grows.ctx p h.0 in
    let m = grows.members p h.0 in
    ap (λ (x : ℕ). reply.Comm x (place_in (comm_at new p).members r) (length (comm_at new p).members)) c
    ∙ ap (λ (ms : List ℕ). reply.Comm (comm_at g p).ctx (place_in ms r) (length ms)) m

module _ (g new : Registry) (r : ℕ) (said : Reply) (c : Creation) (f : Fits g.comms c) where
  owed_grows : Grows g.comms new.comms → owed_creation g r c ≡ Some said → owed_creation new r c ≡ Some said
  owed_grows grows e = go (is_uncoloured c r) (outcome_for c r) refl e
    where
      go : (u : Bool) (o : Option Outcome) → outcome_for c r ≡ o → owed_by g r u (all_called c) o ≡ Some said → owed_by new r u (all_called c) o ≡ Some said
      go true o t e = e
      go false None t e = absurd (cc (e))
      go false (Some o) t e =
          let k = pick_of g.comms c r o (λ (z : Pick). Unit {0}) f (all_any c.picks) t in
          ap (λ (x : Reply). Some x) (reply_grows g new r k.pick.members grows o k.made) ∙ e

  -- nothing is owed of a creation that may be joined
  owed_none : c.picks ≡ [] → (is_split c.name ≡ true → all_called c ≡ false) → owed_creation g r c ≡ Some said → ⊥
  owed_none nil few e = go (is_split c.name) refl (is_uncoloured c r) refl (outcome_for c r) (ap (λ (ks : List Pick). option_map (λ (k : Pick). k.outcome) (find (λ k. has_rank k.members r) ks)) nil) e
    where
      go : (b : Bool) → is_split c.name ≡ b → (u : Bool) → is_uncoloured c r ≡ u → (o : Option Outcome) → o ≡ None → owed_by g r u (all_called c) o ≡ Some said → ⊥
      go true s true t o n e = let z = rw (few s) at e in cc (z)
      go false s true t o n e = let z : false ≡ true = rw s at t in cc (z)
      go b s false t None n e = cc (e)
      go b s false t (Some o) n e = cc (n)

owed_picked : (g : Registry) (r : ℕ) (said : Reply) (c : Creation) (k : Pick) → owed_creation g r c ≡ Some said → owed_creation g r (with_pick c k) ≡ Some said
owed_picked g r said c k e = go (is_uncoloured c r) (find (λ z. has_rank z.members r) c.picks) refl e
  where
    go : (u : Bool) (x : Option Pick) → find (λ z. has_rank z.members r) c.picks ≡ x → owed_by g r u (all_called c) (option_map (λ z. z.outcome) x) ≡ Some said
        → owed_by g r u (all_called c) (option_map (λ z. z.outcome) (find (λ z. has_rank z.members r) (c.picks ++ k ∷ []))) ≡ Some said
    go true x t e = e
    go false None t e = absurd (cc (e))
    go false (Some y) t e = rw (find-append (λ (z : Pick). has_rank z.members r) c.picks (k ∷ []), t) e

pub owed_change : (s : Setting) (g new : Registry) (e : Event) (n r : ℕ) (said : Reply) → Grows g.comms new.comms → Fits g.comms (creation_at g n) → Change s g e new.comms n (creation_at new n)
    → owed_creation g r (creation_at g n) ≡ Some said → owed_creation new r (creation_at new n) ≡ Some said
owed_change s g new e n r said grows f ch o = go (creation_at new n) ch
  where
    grown : owed_creation new r (creation_at g n) ≡ Some said
    grown = owed_grows g new r said (creation_at g n) f grows o

    go : (c : Creation) → Change s g e new.comms n c → owed_creation new r c ≡ Some said
    go c (same is) = rw is grown
    go c (joins name k j is by) = let nil = joinable_is g.comms name (creation_at g n) j f in absurd (owed_none g new r said (creation_at g n) f nil.0 nil.1 o)
    go c (opens q origin k blank inside is by) = let z : owed_creation g r blank_creation ≡ Some said = rw blank at o in absurd (cc (z))
    go c (picks q key outcome event may place made is) = rw is (owed_picked new r said (creation_at g n) _ grown)
    go c (notes q is) = rw is grown

-- and its class stays
pub class_change : (s : Setting) (g new : Registry) (e : Event) (n r : ℕ) (said : Reply) → Fits g.comms (creation_at g n) → Change s g e new.comms n (creation_at new n)
    → owed_creation g r (creation_at g n) ≡ Some said → class_of (creation_at new n) r ≡ class_of (creation_at g n) r
class_change s g new e n r said f ch o = go (creation_at new n) ch
  where
    go : (c : Creation) → Change s g e new.comms n c → class_of c r ≡ class_of (creation_at g n) r
    go c (same is) = rw is refl
    go c (joins name k j is by) = let nil = joinable_is g.comms name (creation_at g n) j f in absurd (owed_none g new r said (creation_at g n) f nil.0 nil.1 o)
    go c (opens q origin k blank inside is by) = let z : owed_creation g r blank_creation ≡ Some said = rw blank at o in absurd (cc (z))
    go c (picks q key outcome event may place made is) = rw is refl
    go c (notes q is) = rw is refl
