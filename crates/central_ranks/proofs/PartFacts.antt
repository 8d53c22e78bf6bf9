-- Threads and parts that change: they stay threads that are between calls.
use Rattle.std.proofs.Common.{◌≡◌, Result, Ok, Err, OnOk, ℕ, zero, suc, ◌<◌, ◌≤◌, not, Bool, true, false, List, [], ◌∷◌, length, map, get_or, set, replicate, refl, sym, ap, subst, ◌∙◌, arith}
use Rattle.std.specs.List.{list_all}
use Rattle.std.proofs.lemmas.List.{length-set, length-map, get_or-map, get_or-set_same, map-set}
use Rattle.mpi_law.specs.declared.setting.TheConstants.{THREADS}
use Rattle.mpi_law.specs.Registry.State.{RankPart, ThreadPart, blank_part, idle_thread, is_within_call}
use Rattle.central_ranks.specs.declared.wait.Wait.{Wait}
use Rattle.central_ranks.specs.declared.wait.Wait.TheVariants.{Idle, Creating, Freeing, Ending, Receiving, Awaiting}
use Rattle.central_ranks.specs.Parts.{PartHeld, AreThreads, AreParts, HasRoom, counts_can_rise}
use Rattle.central_ranks.specs.Waits.{wait_of}

-- Threads

-- what a thread waits for between two entries is no wait within a call
pub not_within : (w : Wait) → is_within_call (wait_of w) ≡ false
not_within Idle = refl
not_within (Creating place) = refl
not_within (Freeing place) = refl
not_within (Ending session) = refl
not_within (Receiving number) = refl
not_within (Awaiting name) = refl

all-set : {X : Type 0} (test : X → Bool) (xs : List X) (i : ℕ) (y : X) → test y ≡ true → list_all test xs ≡ true → list_all test (set xs i y) ≡ true
all-set test [] i y pass all = all
all-set test (x ∷ xs) zero y pass all = grind (arith, pass, all)
all-set test (x ∷ xs) (suc i) y pass all = let later = all-set test xs i y pass (grind (arith, all)) in grind (arith, later, all)

pub threads_set : (ts : List ThreadPart) (t : ℕ) (x : ThreadPart) → is_within_call x.wait ≡ false → AreThreads ts → AreThreads (set ts t x)
threads_set ts t x out are =
    record {
      count = length-set ts t x ∙ are.count;
      between = all-set (λ y. not (is_within_call y.wait)) ts t x (ap (λ b. not b) out) are.between;
    }

pub threads_idle : AreThreads (replicate THREADS idle_thread)
threads_idle = record { count = refl; between = refl }

-- Parts

pub parts_set : (ps : List RankPart) (r : ℕ) (p : RankPart) → AreThreads p.threads → AreParts ps → AreParts (set ps r p)
parts_set [] r p here are q = are q
parts_set (x ∷ xs) zero p here are zero = here
parts_set (x ∷ xs) zero p here are (suc q) = are (suc q)
parts_set (x ∷ xs) (suc r) p here are zero = are zero
parts_set (x ∷ xs) (suc r) p here are (suc q) = parts_set xs r p here (λ k. are (suc k)) q

pub parts_blank : (n : ℕ) → AreParts (replicate n blank_part)
parts_blank zero r = threads_idle
parts_blank (suc n) zero = threads_idle
parts_blank (suc n) (suc r) = parts_blank n r

pub parts_between : (ps : List RankPart) → AreParts ps → list_all (λ p. list_all (λ t. not (is_within_call t.wait)) p.threads) ps ≡ true
parts_between [] are = refl
parts_between (x ∷ xs) are =
    let here = (are 0).between in
    let later = parts_between xs (λ k. are (suc k)) in
    grind (arith, here, later)

-- One part of many, where those in code are seen as the registry's own

module _ (held : List PartHeld) (r : ℕ) (old new : PartHeld) (was : old ≡ get_or held r old) (within : r < length held) where
  was_part : get_or (map (λ h. h.part) held) r blank_part ≡ old.part
  was_part = get_or-map (λ (h : PartHeld). h.part) held r old blank_part within ∙ ap (λ (h : PartHeld). h.part) (sym was)

  module _ (f : RankPart → RankPart) (changed : new.part ≡ f old.part) where
    pub changed_part : (parts : List RankPart) → map (λ h. h.part) held ≡ parts → map (λ h. h.part) (set held r new) ≡ set parts r (f (get_or parts r blank_part))
    changed_part parts seen =
        map-set (λ (h : PartHeld). h.part) held r new
        ∙ ap (λ p. set (map (λ h. h.part) held) r p) (changed ∙ ap f (sym was_part))
        ∙ ap (λ ps. set ps r (f (get_or ps r blank_part))) seen

    pub changed_parts : (AreThreads old.part.threads → AreThreads (f old.part).threads) → AreParts (map (λ h. h.part) held) → AreParts (map (λ h. h.part) (set held r new))
    changed_parts keeps are =
        let before : AreThreads old.part.threads = subst (λ (p : RankPart). AreThreads p.threads) was_part (are r) in
        let after : AreThreads new.part.threads = rw changed (keeps before) in
        rw (map-set (λ (h : PartHeld). h.part) held r new) (parts_set (map (λ h. h.part) held) r new.part after are)

  pub room_made : 1 ≤ new.spare → counts_can_rise new.part ≡ true → HasRoom (record { parts = map (λ h. h.part) (set held r new); spares = map (λ h. h.spare) (set held r new) }) r
  room_made spare counts =
      let part : get_or (map (λ h. h.part) (set held r new)) r blank_part ≡ new.part =
      rw (map-set (λ (h : PartHeld). h.part) held r new) (get_or-set_same (map (λ h. h.part) held) r new.part blank_part (omega (arith, within, length-map held (λ (h : PartHeld). h.part)))) in
      let room : get_or (map (λ h. h.spare) (set held r new)) r 0 ≡ new.spare =
      rw (map-set (λ (h : PartHeld). h.spare) held r new) (get_or-set_same (map (λ h. h.spare) held) r new.spare 0 (omega (arith, within, length-map held (λ (h : PartHeld). h.spare)))) in
      record { spare = omega (arith, room, spare); counts = ap (λ p. counts_can_rise p) part ∙ counts }

-- what follows from two facts that both hold of an `Ok`
pub both_if_ok : {T E : Type 0} {P Q R : Type 0} (said : Result T E) → OnOk said P → OnOk said Q → (P → Q → R) → OnOk said R
both_if_ok (Ok v) p q f = f p q
both_if_ok (Err e) p q f = p
