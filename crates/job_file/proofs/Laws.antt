-- Bytes are one job at most, or have one fault.
use Rattle.std.proofs.Common.{◌≡◌, ◌⊎◌, ℕ, suc, ◌+◌, ◌*◌, ◌/◌, ◌%◌, ◌<◌, List, [], ◌∷◌, length, take, get_or, Some, refl, sym, ap, ◌∙◌, subst, inl, inr, ⊎_elim, arith}
use Rattle.std.specs.Str.{IsValidUpTo}
use Rattle.std.proofs.lemmas.Bool.{cases_order}
use Rattle.mpi_base.specs.declared.ops.Op.{Op}
use Rattle.mpi_law.specs.declared.setting.Setting.{Setting}
use Rattle.mpi_law.specs.ScriptLists.{AllScripts, script_of}
use Rattle.pset_reg.specs.Sets.{ProcessSets}
use Rattle.toml.specs.Data.{Members}
use Rattle.job_file.specs.declared.faults.JobFault.{JobFault}
use Rattle.job_file.specs.declared.faults.JobFault.TheVariants.{NotUtf8}
use Rattle.job_file.specs.Lines.{lines_of}
use Rattle.job_file.specs.Jobs.{table_fault, place_behind, AreScripts, IsJobTable, IsJob, IsJobFault, IsNotUtf8, IsNotToml, IsTableFault}
use Rattle.job_file.proofs.Spelled.{Alone, spell_once}

one_some : {A : Type 0} {x y : A} → Some x ≡ Some y → x ≡ y
one_some e = cc (e)

-- lists with the same scripts at each place
same_lists : (xs ys : List (List Op)) → length xs ≡ length ys → ((q : ℕ) → q < length xs → get_or xs q [] ≡ get_or ys q []) → xs ≡ ys
same_lists [] [] l h = refl
same_lists [] (y ∷ ys) l h = absurd (omega (arith, l))
same_lists (x ∷ xs) [] l h = absurd (omega (arith, l))
same_lists (x ∷ xs) (y ∷ ys) l h =
    let here : x ≡ y = h 0 (omega arith) in
    let more = same_lists xs ys (omega (arith, l)) (λ q k. h (suc q) (omega (arith, k))) in
    cc (here, more)

rank_below : (n q : ℕ) → q < 8 * n → q / 8 < n
rank_below n q l = omega (arith, l)

thread_below : (q : ℕ) → q % 8 < 8
thread_below q = omega arith

place_whole : (q : ℕ) → 8 * (q / 8) + q % 8 ≡ q
place_whole q = omega arith

same_all : (a b : AllScripts) → a.ranks ≡ b.ranks → a.lists ≡ b.lists → a ≡ b
same_all a b e f =
    let one : a ≡ record { ranks = b.ranks; lists = a.lists } = ap (λ (n : ℕ). record { ranks = n; lists = a.lists }) e in
    let two : record { ranks = b.ranks; lists = a.lists } ≡ b = ap (λ (ls : List (List Op)). record { ranks = b.ranks; lists = ls }) f in
    one ∙ two

same_setting : (s z : Setting) → s.ranks ≡ z.ranks → s.contexts ≡ z.contexts → s.psets ≡ z.psets → s ≡ z
same_setting s z e f g =
    let one : s ≡ record { ranks = z.ranks; contexts = s.contexts; psets = s.psets } = ap (λ (n : ℕ). record { ranks = n; contexts = s.contexts; psets = s.psets }) e in
    let two : record { ranks = z.ranks; contexts = s.contexts; psets = s.psets } ≡ record { ranks = z.ranks; contexts = z.contexts; psets = s.psets } = ap (λ (n : ℕ). record { ranks = z.ranks; contexts = n; psets = s.psets }) f in
    let three : record { ranks = z.ranks; contexts = z.contexts; psets = s.psets } ≡ z = ap (λ (p : ProcessSets). record { ranks = z.ranks; contexts = z.contexts; psets = p }) g in
    one ∙ two ∙ three

-- the same texts spell the same scripts
same_scripts : Alone → (n : ℕ) (text : ℕ → List ℕ) (a b : AllScripts) → AreScripts n text a → AreScripts n text b → a ≡ b
same_scripts alone n text a b p q = same_all a b (p.ranks ∙ sym q.ranks) (same_lists a.lists b.lists (p.each ∙ sym q.each) at)
  where
    at : (k : ℕ) → k < length a.lists → get_or a.lists k [] ≡ get_or b.lists k []
    at k l =
        let each = p.each in
        let below : k < 8 * n = omega (arith, each, l) in
        let r = rank_below n k below in
        let t = thread_below k in
        let same : script_of a (k / 8) (k % 8) ≡ script_of b (k / 8) (k % 8) = spell_once alone (lines_of (text (8 * (k / 8) + k % 8))) _ _ (p.spelled (k / 8) (k % 8) r t) (q.spelled (k / 8) (k % 8) r t) in
        subst (λ (i : ℕ). get_or a.lists i [] ≡ get_or b.lists i []) (place_whole k) same

same_tables : Alone → (ms : Members) (s z : Setting) (a b : AllScripts) → IsJobTable ms s a → IsJobTable ms z b → (s ≡ z) × (a ≡ b)
same_tables alone ms s z a b p q = (same_setting s z (p.ranks ∙ sym q.ranks) (p.contexts ∙ sym q.contexts) (p.psets ∙ sym q.psets), same_scripts alone _ _ a b p.scripts q.scripts)

pub one_job : Alone → (bytes : List ℕ) (s z : Setting) (a b : AllScripts) → IsJob bytes s a → IsJob bytes z b → (s ≡ z) × (a ≡ b)
one_job alone bytes s z a b p q =
    let e : q.table ≡ p.table = one_some (sym q.parsed ∙ p.parsed) in
    same_tables alone p.table s z a b p.says (subst (λ (ms : Members). IsJobTable ms z b) e q.says)

-- a job has no fault
pub job_apart : (bytes : List ℕ) (s : Setting) (a : AllScripts) (fault : JobFault) → IsJob bytes s a → IsJobFault bytes fault → ⊥
job_apart bytes s a fault p f = ⊎_elim not_utf8 (⊎_elim not_toml of_table) f
  where
    not_utf8 : IsNotUtf8 bytes fault → ⊥
    not_utf8 h = h.4 p.utf8

    not_toml : IsNotToml bytes fault → ⊥
    not_toml h = let none = h.5 in let some = p.parsed in cc (none, some)

    of_table : IsTableFault bytes fault → ⊥
    of_table h =
        let e : h.1.0 ≡ p.table = one_some (sym h.1.1 ∙ p.parsed) in
        let some : table_fault p.table ≡ Some fault = subst (λ (ms : Members). table_fault ms ≡ Some fault) e h.1.2 in
        let none = p.says.good in
        cc (some, none)

-- Faults

one_place : (bytes : List ℕ) (m n : ℕ) → IsValidUpTo bytes m → IsValidUpTo bytes n → m ≡ n
one_place bytes m n p q = ⊎_elim (λ e. e) (⊎_elim (λ l. absurd (p.longest n l q.front)) (λ l. absurd (q.longest m l p.front))) (cases_order m n)

one_not_utf8 : (bytes : List ℕ) (a b : JobFault) → IsNotUtf8 bytes a → IsNotUtf8 bytes b → a ≡ b
one_not_utf8 bytes a b p q =
    let n : p.0 ≡ q.0 = one_place bytes p.0 q.0 p.5 q.5 in
    let there : (p.1, p.2) ≡ (q.1, q.2) = sym p.6 ∙ ap (λ (m : ℕ). place_behind (1, 1) (take m bytes)) n ∙ q.6 in
    p.3 ∙ ap (λ (place : ℕ × ℕ). NotUtf8 place.0 place.1) there ∙ sym q.3

one_of_table : (bytes : List ℕ) (a b : JobFault) → IsTableFault bytes a → IsTableFault bytes b → a ≡ b
one_of_table bytes a b p q =
    let e : p.1.0 ≡ q.1.0 = one_some (sym p.1.1 ∙ q.1.1) in
    one_some (sym p.1.2 ∙ ap table_fault e ∙ q.1.2)

-- the fault of bytes is one, but for the place where a text is no TOML
pub one_fault : (bytes : List ℕ) (a b : JobFault) → IsJobFault bytes a → IsJobFault bytes b → (a ≡ b) ⊎ (IsNotToml bytes a × IsNotToml bytes b)
one_fault bytes a b p q = ⊎_elim not_utf8 (⊎_elim not_toml of_table) p
  where
    not_utf8 : IsNotUtf8 bytes a → (a ≡ b) ⊎ (IsNotToml bytes a × IsNotToml bytes b)
    not_utf8 h = ⊎_elim (λ k. inl (one_not_utf8 bytes a b h k)) (⊎_elim (λ k. absurd (h.4 k.4)) (λ k. absurd (h.4 k.0))) q

    not_toml : IsNotToml bytes a → (a ≡ b) ⊎ (IsNotToml bytes a × IsNotToml bytes b)
    not_toml h = ⊎_elim (λ k. absurd (k.4 h.4)) (⊎_elim (λ k. inr (h, k)) (λ k. let none = h.5 in let some = k.1.1 in absurd (cc (none, some)))) q

    of_table : IsTableFault bytes a → (a ≡ b) ⊎ (IsNotToml bytes a × IsNotToml bytes b)
    of_table h = ⊎_elim (λ k. absurd (k.4 h.0)) (⊎_elim (λ k. let none = k.5 in let some = h.1.1 in absurd (cc (none, some))) (λ k. inl (one_of_table bytes a b h k))) q
