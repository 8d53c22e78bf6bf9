-- Packets, and keys that are settled: their tokens fit, and tell them.
use Rattle.std.proofs.Common.{◌≡◌, ℕ, List, [], ◌∷◌, ◌++◌, codes, refl, sym, ap, ◌∙◌, subst, lit<, append_assoc}
use Rattle.std.specs.List.{AllByRecursion}
use Rattle.mpi_base.specs.declared.keys.Kind.{Kind}
use Rattle.mpi_base.specs.declared.keys.Kind.TheVariants as kind
use Rattle.mpi_base.specs.declared.keys.Key.{Key}
use Rattle.mpi_base.specs.declared.entries.Said.{Said}
use Rattle.mpi_base.specs.declared.entries.Brief.{Brief}
use Rattle.mpi_base.specs.declared.entries.Brief.TheVariants.{Up, Down, Share, Shares, Msg, Marker}
use Rattle.token_text.specs.Reading.{IsExact}
use Rattle.token_text.specs.Numbers.{number_form}
use Rattle.entry_text.specs.Labels.{most_8, most_16, most_64}
use Rattle.entry_text.specs.LabelForms.{labelled_form, round_form}
use Rattle.entry_text.specs.Grammar.{Piece, branch, key_pieces, said_pieces, fit}
use Rattle.entry_text.specs.Grammar as row
use Rattle.entry_text.specs.Keys.{behind_kind, key_tokens, kind_text, IsKey}
use Rattle.entry_text.specs.Said.{said_tokens, owning_said, IsSettled}
use Rattle.entry_text.specs.Reading.{settled_part, brief_part}
use Rattle.entry_text.specs.Briefs.{brief_tokens, IsBrief}
use Rattle.entry_text.specs.declared.words.Word.TheVariants as word
use Rattle.entry_text.proofs.Exact.{labelled_exact, context_exact, round_exact}
use Rattle.entry_text.proofs.Fit.{IsSolid, IsSure, fit_token, fit_text, fit_word}
use Rattle.entry_text.proofs.Sure.{long_exact, head_same, tail_same, apart, token_same, kind_own, key_sure, owning_sure, verdict_sure}

-- what holds of two lists of tokens holds of both in a row
pub both : (xs ys : List (List ℕ)) → AllByRecursion IsSolid xs → AllByRecursion IsSolid ys → AllByRecursion IsSolid (xs ++ ys)
both [] ys h k = k
both (x ∷ xs) ys h k = (h.0, both xs ys h.1 k)

-- what is said of a key of each kind
said_own : (kd : Kind) (s : Said) (ts : List (List ℕ)) (ps : List Piece) → IsSettled kd s → fit (said_pieces kd ++ ps) (codes "#" ∷ (said_tokens s ++ ts)) ≡ fit ps ts
said_own kind.From s ts ps h = fit_text (codes "#") _ _ refl ∙ verdict_sure.own s ts ps h
said_own kind.Group s ts ps h = fit_text (codes "#") _ _ refl ∙ verdict_sure.own s ts ps h
said_own kind.Dup s ts ps h = fit_text (codes "#") _ _ refl ∙ verdict_sure.own s ts ps h
said_own kind.Split s ts ps h = fit_text (codes "#") _ _ refl ∙ verdict_sure.own s ts ps h
said_own kind.Share s ts ps h = rw h (fit_text (codes "#") _ _ refl ∙ fit_text (codes "shared") ts ps refl)

said_alone : (kd : Kind) (a b : Said) (r s : List (List ℕ)) → IsSettled kd a → IsSettled kd b → said_tokens a ++ r ≡ said_tokens b ++ s → (a ≡ b) × (r ≡ s)
said_alone kind.From a b r s h k e = verdict_sure.alone a b r s h k e
said_alone kind.Group a b r s h k e = verdict_sure.alone a b r s h k e
said_alone kind.Dup a b r s h k e = verdict_sure.alone a b r s h k e
said_alone kind.Split a b r s h k e = verdict_sure.alone a b r s h k e
said_alone kind.Share a b r s h k e =
    let q = subst (λ (x : Said). said_tokens x ++ r ≡ said_tokens b ++ s) h e in
    (h ∙ sym k, tail_same _ _ _ _ (subst (λ (x : Said). codes "shared" ∷ r ≡ said_tokens x ++ s) k q))

said_solid : (kd : Kind) (s : Said) → IsSettled kd s → AllByRecursion IsSolid (said_tokens s)
said_solid kind.From s h = verdict_sure.solid s h
said_solid kind.Group s h = verdict_sure.solid s h
said_solid kind.Dup s h = verdict_sure.solid s h
said_solid kind.Split s h = verdict_sure.solid s h
said_solid kind.Share s h = rw h (refl, tt)

settled_own : (kd : Kind) (k : Key) (s : Said) (ts : List (List ℕ)) (ps : List Piece) → IsKey k → IsSettled kd s
    → fit (branch row.settled ∷ ps) (kind_text kd ∷ (behind_kind kd k ++ codes "#" ∷ (said_tokens s ++ ts))) ≡ fit ps ts
settled_own kind.From k s ts ps h g = fit_word word.From row.settled _ ps ∙ (kind_own kind.From k _ _ h ∙ said_own kind.From s ts ps g)
settled_own kind.Group k s ts ps h g = fit_word word.Group row.settled _ ps ∙ (kind_own kind.Group k _ _ h ∙ said_own kind.Group s ts ps g)
settled_own kind.Dup k s ts ps h g = fit_word word.Dup row.settled _ ps ∙ (kind_own kind.Dup k _ _ h ∙ said_own kind.Dup s ts ps g)
settled_own kind.Split k s ts ps h g = fit_word word.Split row.settled _ ps ∙ (kind_own kind.Split k _ _ h ∙ said_own kind.Split s ts ps g)
settled_own kind.Share k s ts ps h g = fit_word word.Share row.settled _ ps ∙ (kind_own kind.Share k _ _ h ∙ said_own kind.Share s ts ps g)

-- keys that are settled
pub settled_sure : IsSure settled_part
settled_sure = record {
  own = λ p ts ps h. (let q = append_assoc (key_tokens p.0) (codes "#" ∷ said_tokens p.1) ts in rw q (settled_own p.0.kind p.0 p.1 ts ps h.0 h.1));
  alone = one;
  solid = λ p h. both (key_tokens p.0) (codes "#" ∷ said_tokens p.1) (key_sure.solid p.0 h.0) (refl, said_solid p.0.kind p.1 h.1);
}
  where
    one : (a b : Key × Said) (r s : List (List ℕ)) → IsKey a.0 × IsSettled a.0.kind a.1 → IsKey b.0 × IsSettled b.0.kind b.1
        → (key_tokens a.0 ++ codes "#" ∷ said_tokens a.1) ++ r ≡ (key_tokens b.0 ++ codes "#" ∷ said_tokens b.1) ++ s → (a ≡ b) × (r ≡ s)
    one (k, x) (l, y) r s h g e =
        let q = key_sure.alone k l _ _ h.0 g.0 (sym (append_assoc (key_tokens k) (codes "#" ∷ said_tokens x) r) ∙ (e ∙ append_assoc (key_tokens l) (codes "#" ∷ said_tokens y) s)) in
        let h1 = subst (λ (m : Key). IsSettled m.kind x) q.0 h.1 in
        let t = said_alone l.kind x y r s h1 g.1 (tail_same _ _ _ _ q.1) in
        let k0 = q.0 in
        let x0 = t.0 in
        (rw (k0, x0) refl, t.1)

lane_exact : IsExact (labelled_form (codes "lane=") most_8)
lane_exact = labelled_exact (codes "lane=") most_8 refl (lit< tt)

count_exact : IsExact (labelled_form (codes "number=") most_64)
count_exact = labelled_exact (codes "number=") most_64 refl (lit< tt)

brief_own : (b : Brief) (ts : List (List ℕ)) (ps : List Piece) → IsBrief b → fit (branch row.brief ∷ ps) (brief_tokens b ++ ts) ≡ fit ps ts
brief_own (Up i own k) ts ps h =
    let q = append_assoc (said_tokens (owning_said own)) (key_tokens k) ts in
    rw q (fit_word word.Up row.brief _ ps ∙ (fit_token (number_form most_64) long_exact i _ _ h.0 ∙ (owning_sure.own own _ _ tt ∙ key_sure.own k ts ps h.1)))
brief_own (Down i s k) ts ps h =
    fit_word word.Down row.brief _ ps ∙ (fit_token (number_form most_64) long_exact i _ _ h.0 ∙ (fit_token round_form round_exact s _ _ h.1 ∙ key_sure.own k ts ps h.2))
brief_own (Share k) ts ps h = fit_word word.Share row.brief _ ps ∙ key_sure.own k ts ps h
brief_own (Shares k) ts ps h = fit_word word.Shares row.brief _ ps ∙ key_sure.own k ts ps h
brief_own (Msg c l n) ts ps h =
    fit_word word.Msg row.brief _ ps
    ∙ (fit_token (labelled_form (codes "ctx=") most_16) context_exact c _ _ h.0
    ∙ (fit_token (labelled_form (codes "lane=") most_8) lane_exact l _ _ h.1 ∙ fit_token (labelled_form (codes "number=") most_64) count_exact n ts ps h.2))
brief_own (Marker c) ts ps h = fit_word word.Marker row.brief _ ps ∙ fit_token (labelled_form (codes "ctx=") most_16) context_exact c ts ps h

brief_alone : (a b : Brief) (r s : List (List ℕ)) → IsBrief a → IsBrief b → brief_tokens a ++ r ≡ brief_tokens b ++ s → (a ≡ b) × (r ≡ s)
brief_alone (Up i v k) (Up j w l) r s h g e =
    let n = token_same (number_form most_64) long_exact i j _ _ h.0 g.0 (tail_same _ _ _ _ e) in
    let o = owning_sure.alone v w (key_tokens k ++ r) (key_tokens l ++ s) tt tt (sym (append_assoc (said_tokens (owning_said v)) (key_tokens k) r) ∙ (n.1 ∙ append_assoc (said_tokens (owning_said w)) (key_tokens l) s)) in
    let q = key_sure.alone k l r s h.1 g.1 o.1 in
    let n0 = n.0 in
    let o0 = o.0 in
    let q0 = q.0 in
    (rw (n0, o0, q0) refl, q.1)
brief_alone (Down i x k) (Down j y l) r s h g e =
    let n = token_same (number_form most_64) long_exact i j _ _ h.0 g.0 (tail_same _ _ _ _ e) in
    let o = token_same round_form round_exact x y _ _ h.1 g.1 n.1 in
    let q = key_sure.alone k l r s h.2 g.2 o.1 in
    let n0 = n.0 in
    let o0 = o.0 in
    let q0 = q.0 in
    (rw (n0, o0, q0) refl, q.1)
brief_alone (Share k) (Share l) r s h g e = let q = key_sure.alone k l r s h g (tail_same _ _ _ _ e) in (ap (λ (m : Key). Share m) q.0, q.1)
brief_alone (Shares k) (Shares l) r s h g e = let q = key_sure.alone k l r s h g (tail_same _ _ _ _ e) in (ap (λ (m : Key). Shares m) q.0, q.1)
brief_alone (Msg c l m) (Msg d i n) r s h g e =
    let p = token_same (labelled_form (codes "ctx=") most_16) context_exact c d _ _ h.0 g.0 (tail_same _ _ _ _ e) in
    let o = token_same (labelled_form (codes "lane=") most_8) lane_exact l i _ _ h.1 g.1 p.1 in
    let q = token_same (labelled_form (codes "number=") most_64) count_exact m n _ _ h.2 g.2 o.1 in
    let p0 = p.0 in
    let o0 = o.0 in
    let q0 = q.0 in
    (rw (p0, o0, q0) refl, q.1)
brief_alone (Marker c) (Marker d) r s h g e = let p = token_same (labelled_form (codes "ctx=") most_16) context_exact c d r s h g (tail_same _ _ _ _ e) in (ap (λ (n : ℕ). Marker n) p.0, p.1)
brief_alone a b r s h g e = absurd (apart _ _ (head_same _ _ _ _ e) refl)

brief_solid : (b : Brief) → IsBrief b → AllByRecursion IsSolid (brief_tokens b)
brief_solid (Up i own k) h = (refl, (long_exact.solid i h.0, both (said_tokens (owning_said own)) (key_tokens k) (owning_sure.solid own tt) (key_sure.solid k h.1)))
brief_solid (Down i s k) h = (refl, (long_exact.solid i h.0, (round_exact.solid s h.1, key_sure.solid k h.2)))
brief_solid (Share k) h = (refl, key_sure.solid k h)
brief_solid (Shares k) h = (refl, key_sure.solid k h)
brief_solid (Msg c l n) h = (refl, (context_exact.solid c h.0, (lane_exact.solid l h.1, (count_exact.solid n h.2, tt))))
brief_solid (Marker c) h = (refl, (context_exact.solid c h, tt))

-- packets
pub brief_sure : IsSure brief_part
brief_sure = record { own = brief_own; alone = brief_alone; solid = brief_solid }
