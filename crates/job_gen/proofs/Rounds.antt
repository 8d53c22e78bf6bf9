-- The scripts of the parts of a job, and the rounds of one.
use Rattle.std.proofs.Common.{◌≡◌, ℕ, zero, suc, ◌+◌, ◌<◌, ◌≤◌, ◌==◌, Bool, true, false, if◌then◌else◌, List, [], ◌∷◌, ◌++◌, length, replicate, refl, sym, ap, ◌∙◌, subst, arith, append_assoc, append-nil, length-append}
use Rattle.std.proofs.lemmas.Grind.{common_steps, flat_map-append}
use Rattle.mpi_base.specs.declared.ops.Op.{Op}
use Rattle.mpi_law.specs.ScriptLists.{AllScripts, total_of}
use Rattle.mpi_law.specs.declared.setting.Setting.{Setting}
use Rattle.job_gen.specs.declared.parts.Part.{Part}
use Rattle.job_gen.specs.declared.parts.Part.TheVariants.{Start, Duplicate, Split, Message, Create, End}
use Rattle.job_gen.specs.Draws.{one_of_four, next_state, Drawn, round_from}
use Rattle.job_gen.specs.Parts.{ops_in, script_of_parts, at_first_threads, scripts_of_parts, AreRounds, generated_setting, IsGenerated}
use Rattle.job_gen.specs.Adding.{with_ops, with_part}
use Rattle.job_gen.proofs.Totals.{few_ops}

-- Scripts

-- the four scripts
abbrev four : List Op → List Op → List Op → List Op → AllScripts
four a b c d = record { ranks = 4; lists = a ∷ [] ∷ [] ∷ [] ∷ [] ∷ [] ∷ [] ∷ [] ∷ b ∷ [] ∷ [] ∷ [] ∷ [] ∷ [] ∷ [] ∷ [] ∷ c ∷ [] ∷ [] ∷ [] ∷ [] ∷ [] ∷ [] ∷ [] ∷ d ∷ [] ∷ [] ∷ [] ∷ [] ∷ [] ∷ [] ∷ [] ∷ [] }

ops_0 : (a b c d ops : List Op) → with_ops (four a b c d) 0 ops ≡ four (a ++ ops) b c d
ops_0 a b c d [] = ap (λ (xs : List Op). four xs b c d) (sym (append-nil a))
ops_0 a b c d (op ∷ ops) = ops_0 (a ++ op ∷ []) b c d ops ∙ ap (λ (xs : List Op). four xs b c d) (append_assoc a (op ∷ []) ops)

ops_1 : (a b c d ops : List Op) → with_ops (four a b c d) 1 ops ≡ four a (b ++ ops) c d
ops_1 a b c d [] = ap (λ (xs : List Op). four a xs c d) (sym (append-nil b))
ops_1 a b c d (op ∷ ops) = ops_1 a (b ++ op ∷ []) c d ops ∙ ap (λ (xs : List Op). four a xs c d) (append_assoc b (op ∷ []) ops)

ops_2 : (a b c d ops : List Op) → with_ops (four a b c d) 2 ops ≡ four a b (c ++ ops) d
ops_2 a b c d [] = ap (λ (xs : List Op). four a b xs d) (sym (append-nil c))
ops_2 a b c d (op ∷ ops) = ops_2 a b (c ++ op ∷ []) d ops ∙ ap (λ (xs : List Op). four a b xs d) (append_assoc c (op ∷ []) ops)

ops_3 : (a b c d ops : List Op) → with_ops (four a b c d) 3 ops ≡ four a b c (d ++ ops)
ops_3 a b c d [] = ap (λ (xs : List Op). four a b c xs) (sym (append-nil d))
ops_3 a b c d (op ∷ ops) = ops_3 a b c (d ++ op ∷ []) ops ∙ ap (λ (xs : List Op). four a b c xs) (append_assoc d (op ∷ []) ops)

four_ops : (f : ℕ → List Op) (piece : Part) → with_part (at_first_threads f) piece ≡ at_first_threads (λ r. f r ++ ops_in piece r)
four_ops f piece =
    ap (λ (s : AllScripts). with_ops (with_ops (with_ops s 1 (ops_in piece 1)) 2 (ops_in piece 2)) 3 (ops_in piece 3)) (ops_0 (f 0) (f 1) (f 2) (f 3) (ops_in piece 0))
    ∙ ap (λ (s : AllScripts). with_ops (with_ops s 2 (ops_in piece 2)) 3 (ops_in piece 3)) (ops_1 (f 0 ++ ops_in piece 0) (f 1) (f 2) (f 3) (ops_in piece 1))
    ∙ ap (λ (s : AllScripts). with_ops s 3 (ops_in piece 3)) (ops_2 (f 0 ++ ops_in piece 0) (f 1 ++ ops_in piece 1) (f 2) (f 3) (ops_in piece 2))
    ∙ ops_3 (f 0 ++ ops_in piece 0) (f 1 ++ ops_in piece 1) (f 2 ++ ops_in piece 2) (f 3) (ops_in piece 3)

script_more : (parts : List Part) (piece : Part) (r : ℕ) → script_of_parts (parts ++ piece ∷ []) r ≡ script_of_parts parts r ++ ops_in piece r
script_more parts piece r = flat_map-append (λ p. ops_in p r) parts (piece ∷ []) ∙ ap (λ (xs : List Op). script_of_parts parts r ++ xs) (append-nil (ops_in piece r))

-- one part more
pub part_more : (parts : List Part) (piece : Part) → with_part (scripts_of_parts parts) piece ≡ scripts_of_parts (parts ++ piece ∷ [])
part_more parts piece =
    four_ops (script_of_parts parts) piece ∙ rw (script_more parts piece 0, script_more parts piece 1, script_more parts piece 2, script_more parts piece 3) refl

-- Operations so far

total_four : (a b c d : List Op) → total_of (four a b c d) ≡ length a + length b + length c + length d
total_four a b c d = grind (arith, common_steps)

-- a round has an operation, at its sender or at each rank
abbrev size : Part → ℕ
size piece = length (ops_in piece 0) + length (ops_in piece 1) + length (ops_in piece 2) + length (ops_in piece 3)

message_size : (from to number : ℕ) → from < 4 → 1 ≤ size (Message from to number)
message_size zero to number l = omega arith
message_size (suc zero) to number l = omega arith
message_size (suc (suc zero)) to number l = omega arith
message_size (suc (suc (suc zero))) to number l = omega arith
message_size (suc (suc (suc (suc from)))) to number l = absurd (omega (arith, l))

-- the part that a round is by three tests of its kind
abbrev by_tests : Bool → Bool → Bool → ℕ → ℕ → Drawn
by_tests a b c number x =
    if a then record { part = Duplicate; state = x }
    else if b then record { part = Split (one_of_four (next_state x)); state = next_state x }
    else if c then record { part = Message (one_of_four (next_state x)) (one_of_four (next_state (next_state x))) number; state = next_state (next_state x) }
    else record { part = Create; state = x }

tests_size : (a b c : Bool) (number x : ℕ) → 1 ≤ size (by_tests a b c number x).part
tests_size true b c number x = omega arith
tests_size false true c number x = omega arith
tests_size false false true number x = message_size (one_of_four (next_state x)) (one_of_four (next_state (next_state x))) number (omega arith)
tests_size false false false number x = omega arith

round_size : (number x : ℕ) → 1 ≤ size (round_from number x).part
round_size number x = let kind = one_of_four (next_state x) in tests_size (kind == 0) (kind == 1) (kind == 2) number (next_state x)

part_size : (piece : Part) → size piece ≤ 12
part_size piece =
    let zeroth = few_ops piece 0 in
    let first = few_ops piece 1 in
    let second = few_ops piece 2 in
    let third = few_ops piece 3 in
    omega (arith, zeroth, first, second, third)

-- with one part more
total_part : (parts : List Part) (piece : Part) → total_of (scripts_of_parts (parts ++ piece ∷ [])) ≡ total_of (scripts_of_parts parts) + size piece
total_part parts piece =
    let one : (r : ℕ) → length (script_of_parts (parts ++ piece ∷ []) r) ≡ length (script_of_parts parts r) + length (ops_in piece r) = λ r. ap length (script_more parts piece r) ∙ length-append (script_of_parts parts r) (ops_in piece r) in
    let old = total_four (script_of_parts parts 0) (script_of_parts parts 1) (script_of_parts parts 2) (script_of_parts parts 3) in
    let new = total_four (script_of_parts (parts ++ piece ∷ []) 0) (script_of_parts (parts ++ piece ∷ []) 1) (script_of_parts (parts ++ piece ∷ []) 2) (script_of_parts (parts ++ piece ∷ []) 3) in
    let zeroth = one 0 in
    let first = one 1 in
    let second = one 2 in
    let third = one 3 in
    omega (arith, old, new, zeroth, first, second, third)

-- Rounds, one after another

-- how many operations these parts have
abbrev count : List Part → ℕ
count parts = total_of (scripts_of_parts parts)

-- what the loop keeps: the scripts are those of some parts, and what follows them completes the rounds
pub record Goes (ops number : ℕ) (scripts : AllScripts) (rounds state : ℕ) : Type 0 where
  pub parts : List Part
  pub are : scripts ≡ scripts_of_parts (Start ∷ parts)
  pub more : (rest : List Part) → AreRounds ops (Start ∷ parts) rounds state rest → AreRounds ops (Start ∷ []) 0 number (parts ++ rest)
  pub few : rounds ≤ total_of scripts
  pub short : total_of scripts ≤ ops

pub goes_start : (ops number : ℕ) (none scripts : AllScripts) → 20 ≤ ops → none ≡ record { ranks = 4; lists = replicate 32 [] } → scripts ≡ with_part none Start → Goes ops number scripts 0 number
goes_start ops number none scripts enough e s =
    let is : scripts ≡ scripts_of_parts (Start ∷ []) = s ∙ ap (λ (x : AllScripts). with_part x Start) e in
    let twelve : total_of scripts ≡ 12 = ap total_of is in
    record {
      parts = [];
      are = is;
      more = λ rest h. h;
      few = omega arith;
      short = omega (arith, twelve, enough);
    }

pub goes_on : (ops number : ℕ) (old new : AllScripts) (rounds state after : ℕ) (piece : Part) → Goes ops number old rounds state → total_of old + 16 ≤ ops → piece ≡ (round_from rounds state).part
    → after ≡ (round_from rounds state).state → new ≡ with_part old piece → Goes ops number new (rounds + 1) after
goes_on ops number old new rounds state after piece h room p a n =
    let is : new ≡ scripts_of_parts (Start ∷ (h.parts ++ piece ∷ [])) = n ∙ ap (λ (x : AllScripts). with_part x piece) h.are ∙ part_more (Start ∷ h.parts) piece in
    let before : total_of old ≡ count (Start ∷ h.parts) = ap total_of h.are in
    let grown : total_of new ≡ count (Start ∷ h.parts) + size piece = ap total_of is ∙ total_part (Start ∷ h.parts) piece in
    let some : 1 ≤ size piece = rw p (round_size rounds state) in
    let most = part_size piece in
    let few = h.few in
    record {
      parts = h.parts ++ piece ∷ [];
      are = is;
      more = λ rest r. rw append_assoc (h.more (piece ∷ rest) (rw (← before) room, p, rw (← a) r));
      few = omega (arith, before, grown, some, few);
      short = omega (arith, before, grown, most, room);
    }

pub grows : (ops number : ℕ) (old new : AllScripts) (rounds state : ℕ) (piece : Part) → Goes ops number old rounds state → piece ≡ (round_from rounds state).part → new ≡ with_part old piece → total_of old < total_of new
grows ops number old new rounds state piece h p n =
    let is : new ≡ scripts_of_parts (Start ∷ (h.parts ++ piece ∷ [])) = n ∙ ap (λ (x : AllScripts). with_part x piece) h.are ∙ part_more (Start ∷ h.parts) piece in
    let before : total_of old ≡ count (Start ∷ h.parts) = ap total_of h.are in
    let grown : total_of new ≡ count (Start ∷ h.parts) + size piece = ap total_of is ∙ total_part (Start ∷ h.parts) piece in
    let some : 1 ≤ size piece = rw p (round_size rounds state) in
    omega (arith, before, grown, some)

pub goes_all : (ops number : ℕ) (old new : AllScripts) (rounds state : ℕ) (setting : Setting) → Goes ops number old rounds state → ops < total_of old + 16 → new ≡ with_part old End → setting ≡ generated_setting → IsGenerated number ops setting new
goes_all ops number old new rounds state setting h full n s =
    let before : total_of old ≡ count (Start ∷ h.parts) = ap total_of h.are in
    record {
      rounds = h.parts;
      drawn = subst (λ (xs : List Part). AreRounds ops (Start ∷ []) 0 number xs) (append-nil h.parts) (h.more [] (rw (← before) full));
      sets = s;
      parts = n ∙ ap (λ (x : AllScripts). with_part x End) h.are ∙ part_more (Start ∷ h.parts) End;
    }

-- One job

not_both : (ops n : ℕ) → ops < n + 16 → n + 16 ≤ ops → ⊥
not_both ops n a b = omega (arith, a, b)

-- no other rounds follow
one_list : (ops : ℕ) (before : List Part) (number x : ℕ) (a b : List Part) → AreRounds ops before number x a → AreRounds ops before number x b → a ≡ b
one_list ops before number x [] [] p q = refl
one_list ops before number x [] (b ∷ bs) p q = absurd (not_both ops (count before) p q.0)
one_list ops before number x (a ∷ rest) [] p q = absurd (not_both ops (count before) q p.0)
one_list ops before number x (a ∷ rest) (b ∷ bs) p q =
    let same : a ≡ b = p.1 ∙ sym q.1 in
    let later : AreRounds ops (before ++ a ∷ []) (number + 1) (round_from number x).state bs = subst (λ (c : Part). AreRounds ops (before ++ c ∷ []) (number + 1) (round_from number x).state bs) (sym same) q.2 in
    let rests = one_list ops (before ++ a ∷ []) (number + 1) (round_from number x).state rest bs p.2 later in
    cc (same, rests)

pub one_job : (number ops : ℕ) (s z : Setting) (a b : AllScripts) → IsGenerated number ops s a → IsGenerated number ops z b → (s ≡ z) × (a ≡ b)
one_job number ops s z a b p q =
    let same = one_list ops (Start ∷ []) 0 number p.rounds q.rounds p.drawn q.drawn in
    (p.sets ∙ sym q.sets, p.parts ∙ ap (λ (rounds : List Part). scripts_of_parts (Start ∷ (rounds ++ End ∷ []))) same ∙ sym q.parts)
