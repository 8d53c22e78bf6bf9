-- The operations of generated jobs are well formed.
use Rattle.std.proofs.Common.{ℕ, zero, suc, ◌+◌, ◌*◌, ◌%◌, ◌<◌, ◌==◌, Bool, true, false, if◌then◌else◌, List, [], ◌∷◌, ◌++◌, get_or, sym, subst, refl, arith}
use Rattle.std.specs.List.{All, AllByRecursion}
use Rattle.std.proofs.lemmas.List.Elements.{All-nil, All-append, All-from_recursion}
use Rattle.mpi_base.specs.Texts.{IsName, IsPsetName, IsTag}
use Rattle.mpi_base.specs.declared.messages.SrcArg.TheVariants.{At}
use Rattle.mpi_base.specs.declared.ops.Op.{Op}
use Rattle.mpi_base.specs.declared.ops.Op.TheVariants as op
use Rattle.std.specs.Prelude.{Some, codes}
use Rattle.pset_reg.specs.Sets.{world_name}
use Rattle.script_text.specs.Spelling.{IsOp}
use Rattle.mpi_law.specs.declared.setting.Setting.{Setting}
use Rattle.mpi_law.specs.declared.setting.TheConstants.{THREADS}
use Rattle.mpi_law.specs.ScriptLists.{AllScripts, script_of}
use Rattle.job_gen.specs.declared.parts.Part.{Part}
use Rattle.job_gen.specs.declared.parts.Part.TheVariants.{Start, Duplicate, Split, Message, Create, End}
use Rattle.job_gen.specs.Draws.{next_state, one_of_four, Drawn, round_of, round_from}
use Rattle.job_gen.specs.Parts.{session, group, whole, short_lived, if_rank, ops_in, script_of_parts, scripts_of_parts, AreRounds, IsGenerated}

-- each of some lists at any place
each_at : (lists : List (List Op)) (i : ℕ) → AllByRecursion (All IsOp) lists → All IsOp (get_or lists i [])
each_at [] i h = All-nil IsOp
each_at (x ∷ xs) zero h = h.0
each_at (x ∷ xs) (suc i) h = each_at xs i h.1

session_name : IsName session
session_name = record { first = refl; all = refl; short = omega arith }

group_name : IsName group
group_name = record { first = refl; all = refl; short = omega arith }

whole_name : IsName whole
whole_name = record { first = refl; all = refl; short = omega arith }

short_name : IsName short_lived
short_name = record { first = refl; all = refl; short = omega arith }

set_name : IsPsetName world_name
set_name = record { some = omega arith; all = refl; short = omega arith }

first_tag : IsTag (codes "gen")
first_tag = record { all = refl; short = omega arith }

next_tag : IsTag (codes "x")
next_tag = record { all = refl; short = omega arith }

-- a part whose ranks are among the four
abbrev IsOfFour : Part → Type 0
IsOfFour Start = Unit {0}
IsOfFour Duplicate = Unit {0}
IsOfFour (Split first) = first < 4
IsOfFour (Message from to number) = (from < 4) × (to < 4)
IsOfFour Create = Unit {0}
IsOfFour End = Unit {0}

one_op : (one r : ℕ) (o : Op) → IsOp o → All IsOp (if_rank one r o)
one_op one r o h = go (r == one)
  where
    go : (b : Bool) → All IsOp (if b then o ∷ [] else [])
    go true = All-from_recursion IsOp (o ∷ []) (h, tt)
    go false = All-nil IsOp

sent_op : (to number : ℕ) → to < 4 → IsOp (op.Send whole (Some to) (number % 32768) (number % 256 ∷ []))
sent_op to number l = (whole_name, (omega (arith, l), (omega arith, (record { each = (omega arith, tt); short = omega arith }, tt))))

received_op : (from number : ℕ) → from < 4 → IsOp (op.Recv whole (At from) (Some (number % 32768)) 1)
received_op from number l = (whole_name, (omega (arith, l), (omega arith, (omega arith, tt))))

part_ops : (part : Part) (r : ℕ) → IsOfFour part → All IsOp (ops_in part r)
part_ops Start r h = All-from_recursion IsOp (ops_in Start r) ((session_name, tt), ((session_name, (set_name, (tt, (group_name, tt)))), ((group_name, (first_tag, (tt, (whole_name, tt)))), tt)))
part_ops Duplicate r h = All-from_recursion IsOp (ops_in Duplicate r) ((whole_name, (tt, (short_name, tt))), ((short_name, tt), tt))
part_ops (Split first) r h = All-from_recursion IsOp (ops_in (Split first) r) ((whole_name, (omega arith, (omega arith, (tt, (short_name, tt))))), ((short_name, tt), tt))
part_ops (Message from to number) r h =
    All-append IsOp (if_rank from r (op.Send whole (Some to) (number % 32768) (number % 256 ∷ []))) (if_rank to r (op.Recv whole (At from) (Some (number % 32768)) 1))
    (one_op from r _ (sent_op to number h.1)) (one_op to r _ (received_op from number h.0))
part_ops Create r h = All-from_recursion IsOp (ops_in Create r) ((group_name, (next_tag, (tt, (short_name, tt)))), ((short_name, tt), tt))
part_ops End r h = All-from_recursion IsOp (ops_in End r) ((whole_name, tt), ((session_name, tt), tt))

below_four : (x : ℕ) → one_of_four x < 4
below_four x = omega arith

drawn_part : (kind number x : ℕ) → IsOfFour (round_of kind number x).part
drawn_part kind number x = go (kind == 0) (kind == 1) (kind == 2)
  where
    message : Drawn
    message = record { part = Message (one_of_four (next_state x)) (one_of_four (next_state (next_state x))) number; state = next_state (next_state x) }

    go : (a b c : Bool) → IsOfFour (if◌then◌else◌ {A = Drawn} a (record { part = Duplicate; state = x })
        (if◌then◌else◌ {A = Drawn} b (record { part = Split (one_of_four (next_state x)); state = next_state x })
        (if◌then◌else◌ {A = Drawn} c message (record { part = Create; state = x })))).part
    go true b c = tt
    go false true c = below_four (next_state x)
    go false false true = (below_four (next_state x), below_four (next_state (next_state x)))
    go false false false = tt

-- the rounds, and the end behind them
rounds_and_end : (ops : ℕ) (before : List Part) (number x : ℕ) (parts : List Part) → AreRounds ops before number x parts → AllByRecursion IsOfFour (parts ++ End ∷ [])
rounds_and_end ops before number x [] h = (tt, tt)
rounds_and_end ops before number x (part ∷ parts) h =
    (subst IsOfFour (sym h.1) (drawn_part (one_of_four (next_state x)) number (next_state x)), rounds_and_end ops (before ++ part ∷ []) (number + 1) (round_from number x).state parts h.2)

script_ops : (parts : List Part) (r : ℕ) → AllByRecursion IsOfFour parts → All IsOp (script_of_parts parts r)
script_ops [] r h = All-nil IsOp
script_ops (part ∷ parts) r h = All-append IsOp (ops_in part r) (script_of_parts parts r) (part_ops part r h.0) (script_ops parts r h.1)

-- one script with operations, and seven without
abbrev with_script : List Op → List (List Op) → List (List Op)
with_script script lists = script ∷ [] ∷ [] ∷ [] ∷ [] ∷ [] ∷ [] ∷ [] ∷ lists

eight : (script : List Op) (lists : List (List Op)) → All IsOp script → AllByRecursion (All IsOp) lists → AllByRecursion (All IsOp) (with_script script lists)
eight script lists h more = let none = All-nil IsOp in (h, (none, (none, (none, (none, (none, (none, (none, more))))))))

all_ops : (parts : List Part) → AllByRecursion IsOfFour parts → AllByRecursion (All IsOp) (scripts_of_parts parts).lists
all_ops parts h =
    let script : ℕ → List Op = λ r. script_of_parts parts r in
    eight (script 0) (with_script (script 1) (with_script (script 2) (with_script (script 3) []))) (script_ops parts 0 h)
    (eight (script 1) (with_script (script 2) (with_script (script 3) [])) (script_ops parts 1 h)
    (eight (script 2) (with_script (script 3) []) (script_ops parts 2 h)
    (eight (script 3) [] (script_ops parts 3 h) tt)))

pub generated_ops : (number ops : ℕ) (s : Setting) (scripts : AllScripts) → IsGenerated number ops s scripts → (r t : ℕ) → r < s.ranks → t < THREADS → All IsOp (script_of scripts r t)
generated_ops number ops s scripts job r t lr lt =
    let parts : List Part = Start ∷ (job.rounds ++ End ∷ []) in
    subst (λ (all : AllScripts). All IsOp (script_of all r t)) (sym job.parts)
    (each_at (scripts_of_parts parts).lists (THREADS * r + t) (all_ops parts (tt, rounds_and_end ops (Start ∷ []) 0 number job.rounds job.drawn)))
