-- The creation that a thread waits for is the one that it has called last.
use Rattle.std.proofs.Common.{◌≡◌, ℕ, true, false, List, [], ◌∷◌, ◌++◌, refl, sym, ap, ◌∙◌, subst, arith, append_assoc}
use Rattle.std.specs.List.{list_any}
use Rattle.std.proofs.lemmas.List.Folds.{list_any-append}
use Rattle.mpi_base.specs.declared.ops.Op.{Op}
use Rattle.mpi_base.specs.declared.replies.Reply.{Reply}
use Rattle.mpi_law.specs.declared.setting.Setting.{Setting}
use Rattle.mpi_law.specs.declared.effects.Asked.{Asked}
use Rattle.mpi_law.specs.declared.effects.Effect.TheVariants.{Joins}
use Rattle.mpi_law.specs.Registry.State.{Registry, Creation, Creating, blank_creation, thread_of, creation_at}
use Rattle.mpi_law.specs.Registry.Creations.{has_called, is_joinable, place_where, name_of, group_of, join}
use Rattle.mpi_law.specs.Registry.Calls.{effect_at}
use Rattle.mpi_law.specs.Registry.Events.{Event, Calls, Replies, registry_next}
use Rattle.mpi_law.specs.Registry.Runs.{Allowed}
use Rattle.answer_law.specs.Answers.{IsRun, registry_at, Answer, is_call_of, CalledLast, creation_in}
use Rattle.answer_law.proofs.Joins.{row, called_more, joined_place}
use Rattle.answer_law.proofs.Changes.{Change, same, joins, opens, picks, notes, change}
use Rattle.answer_law.proofs.Sound.{blank_at, Sound, sound_next, sound_opening}
use Rattle.answer_law.proofs.Runs.{along, within}
use Rattle.answer_law.proofs.Waits.{WaitChange, stays, rests, joined, sends, posts, wait_change}
use Rattle.answer_law.proofs.Lines.{blank_waits}

-- What a thread waits for

-- the creation has the name of the call, and the rank among its callers
record CalledOf (s : Setting) (events : List Event) (g : Registry) (n r t : ℕ) : Type 0 where
  op : Op
  asked : Asked ℕ
  before : List Event
  after : List Event
  here : events ≡ before ++ Calls r t op false ∷ after
  last : list_any (is_call_of r t) after ≡ false
  effect : effect_at s (registry_at s before) r op ≡ Joins asked
  called : has_called (creation_at g n) r ≡ true
  name : (creation_at g n).name ≡ name_of (registry_at s before).creations r asked.origin

record Waiters (s : Setting) (events : List Event) (g : Registry) : Type 0 where
  sound : Sound s events g
  of : (r t n : ℕ) → (thread_of g r t).wait ≡ Creating n → CalledOf s events g n r t

-- an event leaves the name of a creation that has been called, and its callers
name_stays : (s : Setting) (g new : Registry) (e : Event) (n r : ℕ) → has_called (creation_at g n) r ≡ true → Change s g e new.comms n (creation_at new n) → ((creation_at new n).name ≡ (creation_at g n).name) × (has_called (creation_at new n) r ≡ true)
name_stays s g new e n r h ch = go (creation_at new n) ch
  where
    go : (c : Creation) → Change s g e new.comms n c → (c.name ≡ (creation_at g n).name) × (has_called c r ≡ true)
    go c (same is) = rw is (refl, h)
    go c (joins name k j is by) = rw is (refl, let m = called_more (creation_at g n).callers k r in grind (arith, m, h))
    go c (opens q o k blank inside is by) = let z : has_called blank_creation r ≡ true = rw blank at h in absurd (cc (z))
    go c (picks q key o event may place made is) = rw is (refl, h)
    go c (notes q is) = rw is (refl, h)

module _ (s : Setting) (before : List Event) (e : Event) (allowed : Allowed s (registry_at s before) e) (h : Waiters s before (registry_at s before)) where
  abbrev now : Registry
  now = registry_at s before

  abbrev new : Registry
  new = registry_next s now e

  goes_on : (r t n : ℕ) → is_call_of r t e ≡ false → CalledOf s before now n r t → CalledOf s (before ++ e ∷ []) new n r t
  goes_on r t n none c =
      let k = name_stays s now new e n r c.called (change s now h.sound.named n e allowed) in
      record {
        op = c.op;
        asked = c.asked;
        before = c.before;
        after = c.after ++ e ∷ [];
        here = ap (λ (es : List Event). es ++ e ∷ []) c.here ∙ append_assoc c.before _ _;
        last = let m = list_any-append (is_call_of r t) c.after (e ∷ []) in let l = c.last in grind (arith, m, l, none);
        effect = c.effect;
        called = k.1;
        name = k.0 ∙ c.name;
      }

  waits_next : (r t n : ℕ) → (thread_of new r t).wait ≡ Creating n → CalledOf s (before ++ e ∷ []) new n r t
  waits_next r t n w = go (wait_change s now r t e allowed)
    where
      go : WaitChange s now r t e new → CalledOf s (before ++ e ∷ []) new n r t
      go (stays keep none) = goes_on r t n none (h.of r t n (sym keep ∙ w))
      go (rests free) = let z = rw w at free.0 in absurd (cc (z))
      go (sends op m is effect waits) = let z = sym waits ∙ w in absurd (cc (z))
      go (posts op said x is asks none null due) = let z = rw w at none in absurd (cc (z))
      go (joined op a k is effect waits rows rank) =
          let place : place_where (is_joinable (name_of now.creations r a.origin)) now.creations ≡ n = (let z = sym waits ∙ w in cc (z)) in
          let at = joined_place now.creations (name_of now.creations r a.origin) (group_of now a.origin) k in
          record {
            op = op;
            asked = a;
            before = before;
            after = [];
            here = ap (λ (x : Event). before ++ x ∷ []) is;
            last = refl;
            effect = effect;
            called = rw (rows, sym place) (subst (λ (i : ℕ). has_called (row (join now.creations (name_of now.creations r a.origin) (group_of now a.origin) k) (place_where (is_joinable (name_of now.creations r a.origin)) now.creations)) i ≡ true) rank at.called);
            name = rw (rows, sym place) at.name_is;
          }

waiters_next : (s : Setting) (before : List Event) (e : Event) → Allowed s (registry_at s before) e → Waiters s before (registry_at s before) → Waiters s (before ++ e ∷ []) (registry_next s (registry_at s before) e)
waiters_next s before e a h = record { sound = sound_next s before e a h.sound; of = λ r t n w. waits_next s before e a h r t n w }

waiters_at : (s : Setting) (events : List Event) → IsRun s events → Waiters s events (registry_at s events)
waiters_at s events run = along s (Waiters s) (waiters_next s) [] events run (record { sound = sound_opening s; of = λ r t n w. absurd (let z = rw (blank_at s.ranks r, blank_waits t) at w in cc (z)) })

pub waiting_called : (s : Setting) (events : List Event) (n r t : ℕ) → IsRun s events → (thread_of (registry_at s events) r t).wait ≡ Creating n → has_called (creation_in s events n) r ≡ true
waiting_called s events n r t run w = ((waiters_at s events run).of r t n w).called

pub called_last : (s : Setting) (events : List Event) (n r : ℕ) (said : Reply) → IsRun s events → (a : Answer s events n r said) → CalledLast s a.before n r a.thread
called_last s events n r said run a =
    let here = within s events a.before (Replies r a.thread said) a.after a.here run in
    let c = (waiters_at s a.before here.earlier).of r a.thread n a.waited in
    record { op = c.op; asked = c.asked; before = c.before; after = c.after; here = c.here; last = c.last; effect = c.effect; name = c.name }
