-- What the answers of a creation tell.
use Rattle.std.proofs.Common.{◌≡◌, ℕ, ◌==◌, if◌then◌else◌, Bool, true, false, List, ◌∷◌, ◌++◌, length, position, Option, Some, None, option_map, refl, sym, ap, ◌∙◌, subst, ◌⊎◌, inl, inr}
use Rattle.std.specs.Prelude.{unwrap_or, ℤ}
use Rattle.std.specs.List.{list_any}
use Rattle.mpi_base.specs.MemberLists.{has_rank}
use Rattle.mpi_base.specs.declared.errors.ErrClass.TheVariants as class
use Rattle.mpi_base.specs.declared.replies.Reply.{Reply}
use Rattle.mpi_base.specs.declared.replies.Reply.TheVariants as reply
use Rattle.mpi_law.specs.declared.setting.Setting.{Setting}
use Rattle.mpi_law.specs.Splits.{split_class}
use Rattle.mpi_law.specs.Registry.State.{Registry, Outcome, Made, NoneFree, Pick, Creation, CreationName, Group_and_tag, Nth_dup, Nth_split, Group_on, comm_at, creation_at, place_in}
use Rattle.mpi_law.specs.Registry.Creations.{is_uncoloured, all_called, share_of, class_by, class_of, outcome_for}
use Rattle.mpi_law.specs.Registry.Contexts.{in_use}
use Rattle.mpi_law.specs.Registry.Replies.{outcome_reply, owed_creation}
use Rattle.mpi_law.specs.Registry.Events.{Event, Picks}
use Rattle.mpi_law.specs.Registry.Runs.{Allowed}
use Rattle.answer_law.specs.Answers.{IsRun, registry_at, Answer, coloured, named_group, creation_in, group_of_answer, WasFree, NoneWasFree}
use Rattle.answer_law.proofs.Lists.{member_place, all_any}
use Rattle.answer_law.proofs.Comms.{at}
use Rattle.answer_law.proofs.Classes.{class_coloured}
use Rattle.answer_law.proofs.Creations.{context_of, Fits, PickOf, pick_of, same_outcome, group_by}
use Rattle.answer_law.proofs.Sound.{Came}
use Rattle.answer_law.proofs.Runs.{sound_at, sound_then, owed_then, still}

-- The class that a rank gets is the group that the standard gives it.
module _ (g : Registry) (c : Creation) (r : ℕ) (f : Fits g.comms c) where
  pub class_is_group : class_of c r ≡ named_group g (share_of c) r c.name
  class_is_group = go c.name refl f.group
    where
      by : (o : Option ℤ) (members : List ℕ) → c.group ≡ members → class_by c o ≡ coloured (share_of c) members o
      by None members e = refl
      by (Some k) members e = ap (λ (ms : List ℕ). split_class (share_of c) ms k) e

      go : (name : CreationName) → c.name ≡ name → c.group ≡ group_by g.comms c.name → class_of c r ≡ named_group g (share_of c) r name
      go (Group_and_tag group tag) is e = rw is (rw is at e)
      go (Nth_dup p number) is e = rw is (rw is at e)
      go (Nth_split p number) is e = rw is (by (share_of c r).colour (comm_at g p).members (rw is at e))
      go (Group_on p tag group) is e = rw is (rw is at e)

-- What is owed

module _ (g : Registry) (r : ℕ) (c : Creation) where
  -- without a colour nothing but null, and else what was picked
  pub owed_colourless : (said : Reply) → is_uncoloured c r ≡ true → owed_creation g r c ≡ Some said → said ≡ reply.Null
  owed_colourless said u e = go (all_called c) (rw u at e)
    where
      go : (b : Bool) → (if b then Some reply.Null else None) ≡ Some said → said ≡ reply.Null
      go true e = let z : reply.Null ≡ said = cc (e) in sym z
      go false e = absurd (cc (e))

  pub owed_outcome : (said : Reply) → is_uncoloured c r ≡ false → owed_creation g r c ≡ Some said → (o : Outcome) × (outcome_for c r ≡ Some o) × (said ≡ outcome_reply g r o)
  owed_outcome said u e = go (outcome_for c r) refl (rw u at e)
    where
      go : (x : Option Outcome) → outcome_for c r ≡ x → option_map (outcome_reply g r) x ≡ Some said → (o : Outcome) × (outcome_for c r ≡ Some o) × (said ≡ outcome_reply g r o)
      go None t e = absurd (cc (e))
      go (Some o) t e = let z : outcome_reply g r o ≡ said = cc (e) in (o, t, sym z)

  pub owed_comm : (ctx rank size : ℕ) → owed_creation g r c ≡ Some (reply.Comm ctx rank size) → (p : ℕ) × (outcome_for c r ≡ Some (Made p)) × (reply.Comm ctx rank size ≡ outcome_reply g r (Made p))
  owed_comm ctx rank size e = go (is_uncoloured c r) refl
    where
      made : (o : Outcome) → outcome_for c r ≡ Some o → reply.Comm ctx rank size ≡ outcome_reply g r o → (p : ℕ) × (outcome_for c r ≡ Some (Made p)) × (reply.Comm ctx rank size ≡ outcome_reply g r (Made p))
      made NoneFree t h = absurd (cc (h))
      made (Made p) t h = (p, t, h)

      go : (u : Bool) → is_uncoloured c r ≡ u → (p : ℕ) × (outcome_for c r ≡ Some (Made p)) × (reply.Comm ctx rank size ≡ outcome_reply g r (Made p))
      go true u = let z = owed_colourless _ u e in absurd (cc (z))
      go false u = let o = owed_outcome _ u e in made o.0 o.1 o.2

  pub owed_exhausted : owed_creation g r c ≡ Some (reply.Refused class.Exhausted) → outcome_for c r ≡ Some NoneFree
  owed_exhausted e = go (is_uncoloured c r) refl
    where
      none : (o : Outcome) → outcome_for c r ≡ Some o → reply.Refused class.Exhausted ≡ outcome_reply g r o → outcome_for c r ≡ Some NoneFree
      none NoneFree t h = t
      none (Made p) t h = absurd (cc (h))

      go : (u : Bool) → is_uncoloured c r ≡ u → outcome_for c r ≡ Some NoneFree
      go true u = let z = owed_colourless _ u e in absurd (cc (z))
      go false u = let o = owed_outcome _ u e in none o.0 o.1 o.2

  -- a member of the same class is owed by the same outcome
  pub owed_alike : (q : ℕ) (o : Outcome) (told : Reply) → Fits g.comms c → outcome_for c r ≡ Some o → has_rank (class_of c r) q ≡ true → owed_creation g q c ≡ Some told → told ≡ outcome_reply g q o
  owed_alike q o told f t h e = go (outcome_for c q) (same_outcome g.comms c r q o f t h) (rw (class_coloured c r q h) at e)
    where
      go : (x : Option Outcome) → x ≡ Some o → option_map (outcome_reply g q) x ≡ Some told → told ≡ outcome_reply g q o
      go None z e = absurd (cc (z))
      go (Some y) z e =
          let a : outcome_reply g q y ≡ told = cc (e) in
          let b : y ≡ o = cc (z) in
          sym a ∙ ap (outcome_reply g q) b

-- Answers in a run

module _ (s : Setting) (events : List Event) (run : IsRun s events) (n r : ℕ) where
  abbrev g : Registry
  g = registry_at s events

  abbrev c : Creation
  c = creation_in s events n

  fits : Fits g.comms c
  fits = (sound_at s events run).fits n

  group_is : class_of c r ≡ group_of_answer s events n r
  group_is = class_is_group g c r fits

  owed : (q : ℕ) (said : Reply) → Answer s events n q said → owed_creation g q c ≡ Some said
  owed q said a = (still s events run n q said a).owed

  pub members_alike : (q ctx rank size : ℕ) (told : Reply) → Answer s events n r (reply.Comm ctx rank size) → Answer s events n q told → has_rank (group_of_answer s events n r) q ≡ true → told ≡ reply.Comm ctx (place_in (group_of_answer s events n r) q) size
  members_alike q ctx rank size told a b h =
      let made = owed_comm g r c ctx rank size (owed r _ a) in
      let k = pick_of g.comms c r (Made made.0) (λ (z : Pick). Unit {0}) fits (all_any c.picks) made.1 in
      let alike = owed_alike g r c q (Made made.0) told fits made.1 (rw group_is h) (owed q told b) in
      let same = made.2 in
      let one : (at g.comms made.0).ctx ≡ ctx = cc (same) in
      let long : length (at g.comms made.0).members ≡ size = cc (same) in
      alike ∙ ap (λ (ms : List ℕ). reply.Comm (at g.comms made.0).ctx (place_in ms q) (length (at g.comms made.0).members)) (k.made.1 ∙ sym k.class ∙ group_is)
      ∙ ap (λ (x : ℕ). reply.Comm x (place_in (group_of_answer s events n r) q) (length (at g.comms made.0).members)) one
      ∙ ap (λ (x : ℕ). reply.Comm ctx (place_in (group_of_answer s events n r) q) x) long

  pub rank_told : (ctx rank size : ℕ) → Answer s events n r (reply.Comm ctx rank size) → position (λ m. m == r) (group_of_answer s events n r) ≡ Some rank
  rank_told ctx rank size a =
      let made = owed_comm g r c ctx rank size (owed r _ a) in
      let k = pick_of g.comms c r (Made made.0) (λ (z : Pick). Unit {0}) fits (all_any c.picks) made.1 in
      let members = k.made.1 ∙ sym k.class ∙ group_is in
      let here = member_place (group_of_answer s events n r) r (rw (sym group_is, k.class) k.member) in
      let same = made.2 in
      let place : place_in (at g.comms made.0).members r ≡ rank = cc (same) in
      let is : here.0 ≡ rank = sym (ap (λ (o : Option ℕ). unwrap_or o 0) here.1) ∙ ap (λ (ms : List ℕ). place_in ms r) (sym members) ∙ place in
      here.1 ∙ ap (λ (i : ℕ). Some i) is

  pub size_told : (ctx rank size : ℕ) → Answer s events n r (reply.Comm ctx rank size) → size ≡ length (group_of_answer s events n r)
  size_told ctx rank size a =
      let made = owed_comm g r c ctx rank size (owed r _ a) in
      let k = pick_of g.comms c r (Made made.0) (λ (z : Pick). Unit {0}) fits (all_any c.picks) made.1 in
      let same = made.2 in
      let long : length (at g.comms made.0).members ≡ size = cc (same) in
      sym long ∙ ap length (k.made.1 ∙ sym k.class ∙ group_is)

  pub exhausted_alike : (q : ℕ) (told : Reply) → Answer s events n r (reply.Refused class.Exhausted) → Answer s events n q told → has_rank (group_of_answer s events n r) q ≡ true → told ≡ reply.Refused class.Exhausted
  exhausted_alike q told a b h = owed_alike g r c q NoneFree told fits (owed_exhausted g r c (owed r _ a)) (rw group_is h) (owed q told b)

  -- without a colour nothing but null is told, and else a communicator or that none was free
  pub null_told : (said : Reply) → Answer s events n r said → is_uncoloured c r ≡ true → said ≡ reply.Null
  null_told said a u = owed_colourless g r c said u (owed r said a)

  pub outcome_told : (said : Reply) → Answer s events n r said → is_uncoloured c r ≡ false → (said ≡ reply.Refused class.Exhausted) ⊎ ((ctx : ℕ) × (rank : ℕ) × (size : ℕ) × (said ≡ reply.Comm ctx rank size))
  outcome_told said a u = let o = owed_outcome g r c said u (owed r said a) in by o.0 o.2
    where
      by : (o : Outcome) → said ≡ outcome_reply g r o → (said ≡ reply.Refused class.Exhausted) ⊎ ((ctx : ℕ) × (rank : ℕ) × (size : ℕ) × (said ≡ reply.Comm ctx rank size))
      by NoneFree h = inl h
      by (Made p) h = inr (_, _, _, h)

  -- The pick that an answer comes from

  module _ (said : Reply) (a : Answer s events n r said) where
    abbrev old : Registry
    old = registry_at s a.before

    -- its class then is the group
    class_then : class_of (creation_at old n) r ≡ group_of_answer s events n r
    class_then = sym (still s events run n r said a).class ∙ group_is

    pick_then : (o : Outcome) → outcome_for (creation_at old n) r ≡ Some o → PickOf old.comms (creation_at old n) r o (Came s a.before old.comms n)
    pick_then o e =
        let sound = sound_then s events run n r said a in
        pick_of old.comms (creation_at old n) r o (Came s a.before old.comms n) (sound.fits n) (sound.came n) e

    group_then : (o : Outcome) (k : PickOf old.comms (creation_at old n) r o (Came s a.before old.comms n)) → k.more.key.members ≡ group_of_answer s events n r
    group_then o k = k.more.members ∙ sym k.class ∙ class_then

  pub none_was_free : (a : Answer s events n r (reply.Refused class.Exhausted)) → NoneWasFree s a.before n (group_of_answer s events n r)
  none_was_free a =
      let g' = registry_at s a.before in
      let k = pick_then _ a NoneFree (owed_exhausted g' r (creation_at g' n) (owed_then s events run n r _ a)) in
      let came = k.more in
      let is = ap (context_of g'.comms) k.outcome in
      let allowed = subst (λ (o : Option ℕ). Allowed s (registry_at s came.before) (Picks came.rank came.key o)) is came.allowed in
      record {
        rank = came.rank;
        key = came.key;
        before = came.before;
        after = came.after;
        here = subst (λ (o : Option ℕ). a.before ≡ came.before ++ Picks came.rank came.key o ∷ came.after) is came.here;
        place = came.place;
        used = λ x lo hi. subst (λ (ms : List ℕ). list_any (λ m. in_use (registry_at s came.before).comms m x) ms ≡ true) (group_then _ a NoneFree k) (allowed.1 x lo hi);
      }

  pub was_free : (ctx rank size : ℕ) (a : Answer s events n r (reply.Comm ctx rank size)) → WasFree s a.before n (group_of_answer s events n r) ctx
  was_free ctx rank size a =
      let g' = registry_at s a.before in
      let made = owed_comm g' r (creation_at g' n) ctx rank size (owed_then s events run n r _ a) in
      let k = pick_then _ a (Made made.0) made.1 in
      let came = k.more in
      let same = made.2 in
      let one : (at g'.comms made.0).ctx ≡ ctx = cc (same) in
      let is = ap (context_of g'.comms) k.outcome ∙ ap (λ (x : ℕ). Some x) one in
      let allowed = subst (λ (o : Option ℕ). Allowed s (registry_at s came.before) (Picks came.rank came.key o)) is came.allowed in
      record {
        rank = came.rank;
        key = came.key;
        before = came.before;
        after = came.after;
        here = subst (λ (o : Option ℕ). a.before ≡ came.before ++ Picks came.rank came.key o ∷ came.after) is came.here;
        place = came.place;
        above = allowed.1.above;
        below = allowed.1.below;
        unused = subst (λ (ms : List ℕ). list_any (λ m. in_use (registry_at s came.before).comms m ctx) ms ≡ false) (group_then _ a (Made made.0) k) allowed.1.unused;
      }
