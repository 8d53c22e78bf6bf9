-- Scripts of one rank, and what is wrong with bytes that are none.
use Rattle.std.proofs.Common.{◌≡◌, ◌⊎◌, ℕ, ◌<◌, ◌≤◌, List, length, Some, sym, ap, ◌∙◌, inl, inr, ⊎_elim, arith}
use Rattle.mpi_base.specs.declared.ops.Op.{Op}
use Rattle.script_text.specs.declared.faults.LineFault.{LineFault}
use Rattle.job_file.specs.declared.faults.JobFault.{JobFault}
use Rattle.job_file.specs.declared.faults.JobFault.TheVariants.{NotUtf8, NotToml, UnknownKey, Missing, WrongKind, OutOfRange, PsetMember, ScriptName, ScriptLong, Line, TooManyOps, Memory}
use Rattle.job_file.specs.Lines.{lines_of, first_fault}
use Rattle.job_file.specs.Solo.{IsSoloScript, IsSoloFault}
use Rattle.job_file.proofs.Spelled.{Good, spell_good}

-- Faults of a script

abbrev IsLong : List ℕ → JobFault → Type 0
IsLong bytes f = (f ≡ ScriptLong 0 0) × (4096 < length (lines_of bytes))

abbrev IsOfLine : List ℕ → JobFault → Type 0
IsOfLine bytes f = (line : ℕ) × (fault : LineFault) × (f ≡ Line 0 0 line fault) × (length (lines_of bytes) ≤ 4096) × (first_fault 1 (lines_of bytes) ≡ Some (line, fault))

-- there are two of them
two_faults : (bytes : List ℕ) (f : JobFault) → IsSoloFault bytes f → IsLong bytes f ⊎ IsOfLine bytes f
two_faults bytes (ScriptLong r t) f = let a = f.0 in let b = f.1 in inl (cc (a, b), f.2)
two_faults bytes (Line r t line fault) f = let a = f.0 in let b = f.1 in inr (line, fault, cc (a, b), f.2, f.3)
two_faults bytes (NotUtf8 line column) f = absurd f
two_faults bytes (NotToml line column) f = absurd f
two_faults bytes (UnknownKey k) f = absurd f
two_faults bytes (Missing k) f = absurd f
two_faults bytes (WrongKind k e) f = absurd f
two_faults bytes (OutOfRange k l g) f = absurd f
two_faults bytes (PsetMember k) f = absurd f
two_faults bytes (ScriptName k) f = absurd f
two_faults bytes TooManyOps f = absurd f
two_faults bytes Memory f = absurd f

-- a script has no fault
pub script_apart : Good → (bytes : List ℕ) (ops : List Op) (fault : JobFault) → IsSoloScript bytes ops → IsSoloFault bytes fault → ⊥
script_apart good bytes ops fault s f = ⊎_elim long of_line (two_faults bytes fault f)
  where
    long : IsLong bytes fault → ⊥
    long h = let few = s.few in let many = h.1 in omega (arith, few, many)

    of_line : IsOfLine bytes fault → ⊥
    of_line h = let none = spell_good good 1 (lines_of bytes) ops s.spelled in let some = h.4 in cc (none, some)

one_some : {A : Type 0} {x y : A} → Some x ≡ Some y → x ≡ y
one_some e = cc (e)

-- bytes have one fault
pub one_fault : (bytes : List ℕ) (a b : JobFault) → IsSoloFault bytes a → IsSoloFault bytes b → a ≡ b
one_fault bytes a b f g = ⊎_elim long of_line (two_faults bytes a f)
  where
    long : IsLong bytes a → a ≡ b
    long h =
        let many = h.1 in
        ⊎_elim (λ k. h.0 ∙ sym k.0) (λ k. let few = k.3 in absurd (omega (arith, many, few))) (two_faults bytes b g)

    of_line : IsOfLine bytes a → a ≡ b
    of_line h =
        let few = h.3 in
        ⊎_elim (λ k. let many = k.1 in absurd (omega (arith, many, few)))
        (λ k. let e = one_some (sym h.4 ∙ k.4) in h.2 ∙ ap (λ (x : ℕ × LineFault). Line 0 0 x.0 x.1) e ∙ sym k.2) (two_faults bytes b g)
