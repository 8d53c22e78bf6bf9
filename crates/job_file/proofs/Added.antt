-- Scripts to which what lines spell was added, a line and then a thread at a time.
use Rattle.std.proofs.Common.{◌≡◌, ℕ, zero, suc, ◌+◌, ◌*◌, ◌<◌, ◌≤◌, ◌≢◌, List, [], ◌∷◌, ◌++◌, append_assoc, length, sum_by, get_or, set, replicate, refl, sym, ap, ◌∙◌, subst, ⊎_elim, arith}
use Rattle.std.proofs.lemmas.List.{get_or-set_same, get_or-set_other, length-set, length-replicate, append-nil}
use Rattle.std.proofs.lemmas.Bool.{cases_order}
use Rattle.mpi_base.specs.declared.ops.Op.{Op}
use Rattle.mpi_law.specs.ScriptLists.{AllScripts, total_of}
use Rattle.job_file.specs.Lines.{lines_of, Spell}
use Rattle.job_file.specs.Threads.{rank_at, thread_at}
use Rattle.job_file.specs.Adding.{with_ops, AddsLines}
use Rattle.job_file.specs.Jobs.{AreScripts}
use Rattle.job_file.proofs.Spelled.{spell_both}

-- Lists of scripts

-- nothing was added
none_more : (lists : List (List Op)) (i : ℕ) → set lists i (get_or lists i [] ++ []) ≡ lists
none_more [] i = refl
none_more (x ∷ xs) zero = ap (λ (r : List Op). r ∷ xs) (append-nil x)
none_more (x ∷ xs) (suc i) = ap (λ (r : List (List Op)). x ∷ r) (none_more xs i)

-- some were added, and then others
twice_more : (lists : List (List Op)) (i : ℕ) (a b : List Op)
    → set (set lists i (get_or lists i [] ++ a)) i (get_or (set lists i (get_or lists i [] ++ a)) i [] ++ b) ≡ set lists i (get_or lists i [] ++ (a ++ b))
twice_more [] i a b = refl
twice_more (x ∷ xs) zero a b = ap (λ (r : List Op). r ∷ xs) (append_assoc x a b)
twice_more (x ∷ xs) (suc i) a b = ap (λ (r : List (List Op)). x ∷ r) (twice_more xs i a b)

pub with_none : (s : AllScripts) (r t : ℕ) → s ≡ with_ops s r t []
with_none s r t = sym (ap (λ (lists : List (List Op)). record { ranks = s.ranks; lists = lists }) (none_more s.lists (8 * r + t)))

pub with_both : (s : AllScripts) (r t : ℕ) (a b : List Op) → with_ops (with_ops s r t a) r t b ≡ with_ops s r t (a ++ b)
with_both s r t a b = ap (λ (lists : List (List Op)). record { ranks = s.ranks; lists = lists }) (twice_more s.lists (8 * r + t) a b)

-- The lines of a script, one after another

-- what the lines in front of the rest spell was added to the script of a thread
pub record HasAdded (lines : List (List ℕ)) (r t : ℕ) (old new : AllScripts) (rest : List (List ℕ)) : Type 0 where
  pub front : List (List ℕ)
  pub cut : lines ≡ front ++ rest
  pub adds : AddsLines front r t old new

pub added_none : (lines : List (List ℕ)) (r t : ℕ) (s : AllScripts) → HasAdded lines r t s s lines
added_none lines r t s = record { front = []; cut = refl; adds = record { ops = []; spelled = tt; added = with_none s r t } }

pub added_more : (lines : List (List ℕ)) (r t : ℕ) (first old new : AllScripts) (line : List ℕ) (rest behind : List (List ℕ))
    → HasAdded lines r t first old rest → rest ≡ line ∷ behind → AddsLines (line ∷ []) r t old new → HasAdded lines r t first new behind
added_more lines r t first old new line rest behind h e a = record {
  front = h.front ++ line ∷ [];
  cut = h.cut ∙ ap (λ (r : List (List ℕ)). h.front ++ r) e ∙ sym (append_assoc h.front (line ∷ []) behind);
  adds = record {
    ops = h.adds.ops ++ a.ops;
    spelled = spell_both h.front (line ∷ []) _ _ h.adds.spelled a.spelled;
    added = a.added ∙ ap (λ (s : AllScripts). with_ops s r t a.ops) h.adds.added ∙ with_both first r t h.adds.ops a.ops;
  };
}

pub added_all : (lines : List (List ℕ)) (r t : ℕ) (old new : AllScripts) (rest : List (List ℕ)) → HasAdded lines r t old new rest → rest ≡ [] → AddsLines lines r t old new
added_all lines r t old new rest h e = record {
  ops = h.adds.ops;
  spelled = subst (λ (ls : List (List ℕ)). Spell ls h.adds.ops) (sym (h.cut ∙ ap (λ (r : List (List ℕ)). h.front ++ r) e ∙ append-nil h.front)) h.adds.spelled;
  added = h.adds.added;
}

-- The scripts of the threads, one after another

-- the scripts of the places before this one are spelled by their texts, and the others are empty
pub record HasPlaced (n : ℕ) (text : ℕ → List ℕ) (place : ℕ) (all : AllScripts) : Type 0 where
  pub ranks : all.ranks ≡ n
  pub each : length all.lists ≡ 8 * n
  pub spelled : (q : ℕ) → q < place → Spell (lines_of (text q)) (get_or all.lists q [])
  pub empty : (q : ℕ) → place ≤ q → get_or all.lists q [] ≡ []

no_script : (n q : ℕ) → get_or (replicate {A = List Op} n []) q [] ≡ []
no_script zero q = refl
no_script (suc n) zero = refl
no_script (suc n) (suc q) = no_script n q

no_op : (n : ℕ) → sum_by length (replicate {A = List Op} n []) ≡ 0
no_op zero = refl
no_op (suc n) = no_op n

pub no_total : (n : ℕ) (all : AllScripts) → all ≡ record { ranks = n; lists = replicate (8 * n) [] } → total_of all ≤ 4096 * 0
no_total n all e = let none = no_op (8 * n) in rw e (omega (arith, none))

pub placed_none : (n : ℕ) (text : ℕ → List ℕ) (all : AllScripts) → all ≡ record { ranks = n; lists = replicate (8 * n) [] } → HasPlaced n text 0 all
placed_none n text all e = rw e (record { ranks = refl; each = length-replicate (8 * n) []; spelled = λ q l. absurd (omega (arith, l)); empty = λ q l. no_script (8 * n) q })

place_whole : (place : ℕ) → 8 * rank_at place + thread_at place ≡ place
place_whole place = omega arith

pub placed_more : (n : ℕ) (text : ℕ → List ℕ) (place : ℕ) (old new : AllScripts) → place < 8 * n → HasPlaced n text place old
    → AddsLines (lines_of (text place)) (rank_at place) (thread_at place) old new → HasPlaced n text (place + 1) new
placed_more n text place old new l h a = record {
  ranks = ap (λ (s : AllScripts). s.ranks) is ∙ h.ranks;
  each = ap (λ (s : AllScripts). length s.lists) is ∙ length-set old.lists place a.ops ∙ h.each;
  spelled = λ q k. ⊎_elim (here q) (⊎_elim (before q) (λ m. absurd (omega (arith, m, k)))) (cases_order q place);
  empty = λ q k. at_other q (λ e. absurd (omega (arith, e, k))) ∙ h.empty q (omega (arith, k));
}
  where
    is : new ≡ record { ranks = old.ranks; lists = set old.lists place a.ops }
    is = a.added
        ∙ ap (λ (p : ℕ). record { ranks = old.ranks; lists = set old.lists p (get_or old.lists p [] ++ a.ops) }) (place_whole place)
        ∙ ap (λ (ops : List Op). record { ranks = old.ranks; lists = set old.lists place (ops ++ a.ops) }) (h.empty place (omega arith))

    inside : place < length old.lists
    inside = let each = h.each in omega (arith, each, l)

    at_place : get_or new.lists place [] ≡ a.ops
    at_place = ap (λ (s : AllScripts). get_or s.lists place []) is ∙ get_or-set_same old.lists place a.ops [] inside

    at_other : (q : ℕ) → q ≢ place → get_or new.lists q [] ≡ get_or old.lists q []
    at_other q apart = ap (λ (s : AllScripts). get_or s.lists q []) is ∙ get_or-set_other old.lists place q a.ops [] apart

    here : (q : ℕ) → q ≡ place → Spell (lines_of (text q)) (get_or new.lists q [])
    here q e = subst (λ (p : ℕ). Spell (lines_of (text p)) (get_or new.lists p [])) (sym e) (subst (λ (ops : List Op). Spell (lines_of (text place)) ops) (sym at_place) a.spelled)

    before : (q : ℕ) → q < place → Spell (lines_of (text q)) (get_or new.lists q [])
    before q k = subst (λ (ops : List Op). Spell (lines_of (text q)) ops) (sym (at_other q (λ e. absurd (omega (arith, e, k))))) (h.spelled q k)

-- all scripts were placed
pub placed_all : (n : ℕ) (text : ℕ → List ℕ) (all : AllScripts) → HasPlaced n text (8 * n) all → AreScripts n text all
placed_all n text all h = record { ranks = h.ranks; each = h.each; spelled = λ r t k l. h.spelled (8 * r + t) (omega (arith, k, l)) }

-- no text, no operation
pub placed_empty : (n : ℕ) (all : AllScripts) → all ≡ record { ranks = n; lists = replicate (8 * n) [] } → AreScripts n (λ place. []) all
placed_empty n all e = rw e (record {
  ranks = refl;
  each = length-replicate (8 * n) [];
  spelled = λ r t k l. subst (λ (ops : List Op). Spell [] ops) (sym (no_script (8 * n) (8 * r + t))) tt;
})
