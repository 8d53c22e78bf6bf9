-- Who stands at a creation as a caller has called it, and nothing is answered of it before all have.
use Rattle.std.proofs.Common.{◌≡◌, ◌==◌, ◌||◌, if◌then◌else◌, ℕ, Bool, true, false, List, [], ◌∷◌, ◌++◌, find, Option, Some, None, refl, sym, ap, ◌∙◌, subst, arith, append_assoc}
use Rattle.std.specs.Prelude.{unwrap_or}
use Rattle.std.specs.List.{list_any}
use Rattle.std.proofs.lemmas.Bool.Decides.{nat_tests}
use Rattle.mpi_base.specs.declared.ops.Op.{Op}
use Rattle.mpi_base.specs.declared.replies.Reply.{Reply}
use Rattle.mpi_base.specs.declared.replies.Reply.TheVariants as reply
use Rattle.mpi_law.specs.declared.setting.Setting.{Setting}
use Rattle.mpi_law.specs.declared.effects.Asked.{Asked}
use Rattle.mpi_law.specs.declared.effects.Effect.TheVariants.{Joins}
use Rattle.mpi_law.specs.Registry.State.{Registry, Caller, Creation, CreationName, creation_at}
use Rattle.mpi_law.specs.Registry.Creations.{has_called, all_called, blank_caller, caller_of, share_of, no_share, share_in, is_uncoloured, with_caller, name_of, group_of}
use Rattle.mpi_law.specs.Registry.Calls.{effect_at}
use Rattle.mpi_law.specs.Registry.Replies.{owed_creation}
use Rattle.mpi_law.specs.Registry.Events.{Event, Calls, registry_next}
use Rattle.mpi_law.specs.Registry.Runs.{Allowed}
use Rattle.answer_law.specs.Answers.{IsRun, registry_at, Answer, creation_in, HasCalled}
use Rattle.answer_law.proofs.Joins.{opened_row, called_more, same_name_is}
use Rattle.answer_law.proofs.Changes.{JoinCall, Change, same, joins, opens, picks, notes, change}
use Rattle.answer_law.proofs.Creations.{all_if_picked}
use Rattle.answer_law.proofs.Sound.{Sound, sound_next, sound_opening}
use Rattle.answer_law.proofs.Runs.{along, owed_then, sound_then}
use Rattle.answer_law.proofs.Told.{owed_outcome}

-- Callers after one more

caller_old : (ks : List Caller) (k : Caller) (r : ℕ) → list_any (λ (z : Caller). z.rank == r) ks ≡ true → caller_of (ks ++ k ∷ []) r ≡ caller_of ks r
caller_old [] k r h = absurd (cc (h))
caller_old (z ∷ zs) k r h = go (z.rank == r) refl (caller_old zs k r)
  where
    go : (b : Bool) → (z.rank == r) ≡ b → (list_any (λ (y : Caller). y.rank == r) zs ≡ true → caller_of (zs ++ k ∷ []) r ≡ caller_of zs r) → unwrap_or (if b then Some z else find (λ (y : Caller). y.rank == r) (zs ++ k ∷ [])) blank_caller ≡ unwrap_or (if b then Some z else find (λ (y : Caller). y.rank == r) zs) blank_caller
    go true e ih = refl
    go false e ih = ih (grind (arith, h, e))

caller_new : (ks : List Caller) (k : Caller) → list_any (λ (z : Caller). z.rank == k.rank) ks ≡ false → caller_of (ks ++ k ∷ []) k.rank ≡ k
caller_new [] k h = let z : (k.rank == k.rank) ≡ true = grind (arith, nat_tests) in rw z refl
caller_new (z ∷ zs) k h = go (z.rank == k.rank) refl (caller_new zs k)
  where
    go : (b : Bool) → (z.rank == k.rank) ≡ b → (list_any (λ (y : Caller). y.rank == k.rank) zs ≡ false → caller_of (zs ++ k ∷ []) k.rank ≡ k) → unwrap_or (if b then Some z else find (λ (y : Caller). y.rank == k.rank) (zs ++ k ∷ [])) blank_caller ≡ k
    go true e ih = absurd (grind (arith, h, e))
    go false e ih = ih (grind (arith, h, e))

-- the call of a caller at a creation
record CallAt (s : Setting) (events : List Event) (c : Creation) (r : ℕ) : Type 0 where
  thread : ℕ
  op : Op
  now : Bool
  asked : Asked ℕ
  before : List Event
  after : List Event
  here : events ≡ before ++ Calls r thread op now ∷ after
  effect : effect_at s (registry_at s before) r op ≡ Joins asked
  name : c.name ≡ name_of (registry_at s before).creations r asked.origin
  share : share_of c r ≡ unwrap_or (share_in asked.origin) no_share

record Callers (s : Setting) (events : List Event) (g : Registry) : Type 0 where
  sound : Sound s events g
  of : (n r : ℕ) → has_called (creation_at g n) r ≡ true → CallAt s events (creation_at g n) r

module _ (s : Setting) (before : List Event) (e : Event) where
  abbrev now : Registry
  now = registry_at s before

  -- a creation that keeps its name and a caller's share
  later : (c d : Creation) (r : ℕ) → d.name ≡ c.name → share_of d r ≡ share_of c r → CallAt s before c r → CallAt s (before ++ e ∷ []) d r
  later c d r name share h = record {
    thread = h.thread;
    op = h.op;
    now = h.now;
    asked = h.asked;
    before = h.before;
    after = h.after ++ e ∷ [];
    here = ap (λ (es : List Event). es ++ e ∷ []) h.here ∙ append_assoc h.before _ _;
    effect = h.effect;
    name = name ∙ h.name;
    share = share ∙ h.share;
  }

  -- the call that has come
  fresh : (c : Creation) (k : Caller) → JoinCall s now e c.name k → caller_of c.callers k.rank ≡ k → CallAt s (before ++ e ∷ []) c k.rank
  fresh c k by is = record {
    thread = k.thread;
    op = by.op;
    now = by.now;
    asked = by.asked;
    before = before;
    after = [];
    here = ap (λ (x : Event). before ++ x ∷ []) by.event;
    effect = by.effect;
    name = by.name_is;
    share = ap (λ (z : Caller). unwrap_or z.share no_share) is ∙ ap (λ (o : Option _). unwrap_or o no_share) by.share_is;
  }

  call_next : (new : Registry) (n r : ℕ) → ((q : ℕ) → has_called (creation_at now n) q ≡ true → CallAt s before (creation_at now n) q) → Change s now e new.comms n (creation_at new n) → has_called (creation_at new n) r ≡ true → CallAt s (before ++ e ∷ []) (creation_at new n) r
  call_next new n r h ch = go (creation_at new n) ch
    where
      c : Creation
      c = creation_at now n

      go : (d : Creation) → Change s now e new.comms n d → has_called d r ≡ true → CallAt s (before ++ e ∷ []) d r
      go d (same is) = rw is (λ called. later c c r refl refl (h r called))
      go d (picks q key o event may place made is) = rw is (λ called. later c _ r refl refl (h r called))
      go d (notes q is) = rw is (λ called. later c _ r refl refl (h r called))
      go d (opens q o k blank inside is by) = rw is (λ called. one called)
        where
          one : ((k.rank == r) || false) ≡ true → CallAt s (before ++ e ∷ []) (opened_row (name_of now.creations q o) (group_of now o) k) r
          one called =
              let mine : k.rank ≡ r = grind (arith, nat_tests, called) in
              subst (CallAt s (before ++ e ∷ []) (opened_row (name_of now.creations q o) (group_of now o) k)) mine (fresh _ k by (caller_new [] k refl))
      go d (joins name k j is by) = rw is (λ called. at (has_called c r) refl (sym (called_more c.callers k r) ∙ called))
        where
          named : c.name ≡ name
          named = same_name_is c.name name (grind (arith, j))

          at : (b : Bool) → has_called c r ≡ b → (has_called c r || (k.rank == r)) ≡ true → CallAt s (before ++ e ∷ []) (with_caller c k) r
          at true t m = later c (with_caller c k) r refl (ap (λ (z : Caller). unwrap_or z.share no_share) (caller_old c.callers k r t)) (h r t)
          at false t m =
              let mine : k.rank ≡ r = grind (arith, nat_tests, t, m) in
              let none : has_called c k.rank ≡ false = rw mine t in
              subst (CallAt s (before ++ e ∷ []) (with_caller c k)) mine (fresh (with_caller c k) k (subst (λ (x : CreationName). JoinCall s now e x k) (sym named) by) (caller_new c.callers k none))

callers_next : (s : Setting) (before : List Event) (e : Event) → Allowed s (registry_at s before) e → Callers s before (registry_at s before) → Callers s (before ++ e ∷ []) (registry_next s (registry_at s before) e)
callers_next s before e a h = record {
  sound = sound_next s before e a h.sound;
  of = λ n r. call_next s before e (registry_next s (registry_at s before) e) n r (h.of n) (change s (registry_at s before) h.sound.named n e a);
}

callers_at : (s : Setting) (events : List Event) → IsRun s events → Callers s events (registry_at s events)
callers_at s events run = along s (Callers s) (callers_next s) [] events run (record { sound = sound_opening s; of = λ n r called. absurd (cc (called)) })

pub caller_called : (s : Setting) (events : List Event) (n r : ℕ) → IsRun s events → has_called (creation_in s events n) r ≡ true → HasCalled s events n r
caller_called s events n r run called =
    let c = (callers_at s events run).of n r called in
    record { thread = c.thread; op = c.op; now = c.now; asked = c.asked; before = c.before; after = c.after; here = c.here; effect = c.effect; name = c.name; share = c.share }

-- before an answer all have called
pub all_have_called : (s : Setting) (events : List Event) (n r : ℕ) (said : Reply) (run : IsRun s events) (a : Answer s events n r said) → all_called (creation_in s a.before n) ≡ true
all_have_called s events n r said run a = go (is_uncoloured c r) refl
  where
    c : Creation
    c = creation_in s a.before n

    owed : owed_creation (registry_at s a.before) r c ≡ Some said
    owed = owed_then s events run n r said a

    uncoloured : (b : Bool) → all_called c ≡ b → (if b then Some reply.Null else None) ≡ Some said → all_called c ≡ true
    uncoloured true t e = t
    uncoloured false t e = absurd (cc (e))

    go : (u : Bool) → is_uncoloured c r ≡ u → all_called c ≡ true
    go true u = uncoloured (all_called c) refl (let z = owed in rw u at z)
    go false u =
        let o = owed_outcome (registry_at s a.before) r c said u owed in
        all_if_picked (registry_at s a.before).comms c r o.0 ((sound_then s events run n r said a).fits n) o.1
