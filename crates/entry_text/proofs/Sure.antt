-- Keys, packets, what is said, replies and matches: their tokens fit, and tell them.
use Rattle.std.proofs.Common.{◌≡◌, ℕ, Bool, true, false, List, [], ◌∷◌, ◌++◌, Option, Some, None, bytes_eq, decimal, refl, sym, ap, ◌∙◌, subst, lit<}
use Rattle.std.specs.List.{AllByRecursion}
use Rattle.mpi_base.proofs.KeyFacts.{bytes_eq-refl}
use Rattle.mpi_base.specs.declared.keys.Kind.{Kind}
use Rattle.mpi_base.specs.declared.keys.Kind.TheVariants as kind
use Rattle.mpi_base.specs.declared.keys.Key.{Key}
use Rattle.mpi_base.specs.declared.entries.Said.{Said}
use Rattle.mpi_base.specs.declared.entries.Said.TheVariants as said
use Rattle.token_text.specs.Forms.{Form}
use Rattle.token_text.specs.Reading.{IsExact}
use Rattle.token_text.specs.Numbers.{number_form}
use Rattle.token_text.specs.Texts.{tag_form}
use Rattle.token_text.specs.Lists.{members_form}
use Rattle.token_text.proofs.Exact.{number_exact, tag_exact}
use Rattle.token_text.proofs.ExactLists.{members_exact}
use Rattle.entry_text.specs.Labels.{most_16, most_64}
use Rattle.entry_text.specs.LabelForms.{picked_form}
use Rattle.entry_text.specs.Grammar.{Row, Piece, branch, token, number, key, settled, key_pieces, said_pieces, fit}
use Rattle.entry_text.specs.Grammar as row
use Rattle.entry_text.specs.Keys.{kind_text, behind_kind, key_tokens, ShowsAll, IsKey}
use Rattle.entry_text.specs.Reading.{key_part, owning_part, verdict_part}
use Rattle.entry_text.specs.Said.{said_tokens, IsVerdict, owning_said}
use Rattle.entry_text.specs.declared.words.Word.TheVariants as word
use Rattle.entry_text.proofs.Exact.{picked_exact}
use Rattle.entry_text.proofs.Fit.{IsSolid, IsSure, fit_token, fit_word}

pub short_exact : IsExact (number_form most_16)
short_exact = number_exact most_16 (lit< tt)

pub long_exact : IsExact (number_form most_64)
long_exact = number_exact most_64 (lit< tt)

-- the first of two lists of tokens, and the others
pub head_same : (x y : List ℕ) (xs ys : List (List ℕ)) → x ∷ xs ≡ y ∷ ys → x ≡ y
head_same x y xs ys e = cc (e)

pub tail_same : (x y : List ℕ) (xs ys : List (List ℕ)) → x ∷ xs ≡ y ∷ ys → xs ≡ ys
tail_same x y xs ys e = cc (e)

-- two texts that a test tells apart
pub apart : (s t : List ℕ) → s ≡ t → bytes_eq s t ≡ false → ⊥
apart s t e h = let r = bytes_eq-refl t in absurd (cc (rw e at h, r))

-- a token of a form, and what stands behind it
pub token_same : {V : Type 0} (f : Form V) (x : IsExact f) (a b : V) (xs ys : List (List ℕ)) → f.Fits a → f.Fits b → f.text a ∷ xs ≡ f.text b ∷ ys → (a ≡ b) × (xs ≡ ys)
token_same f x a b xs ys h k e = (x.alone a b h k (head_same _ _ _ _ e), tail_same _ _ _ _ e)

-- a key of its fields
key_of : ℕ → Kind → ℕ → List ℕ → List ℕ → Key
key_of p k n t m = record { parent = p; kind = k; number = n; tag = t; members = m }

key_is : (k : Key) → key_of k.parent k.kind k.number k.tag k.members ≡ k
unfolding key_of
key_is k = refl

-- what stands behind the word of a key fits
numbers_own : (k : Key) (ts : List (List ℕ)) (ps : List Piece) → IsKey k
    → fit (number most_16 ∷ number most_64 ∷ token members_form ∷ ps) (decimal k.parent ∷ decimal k.number ∷ members_form.text k.members ∷ ts) ≡ fit ps ts
numbers_own k ts ps h =
    fit_token (number_form most_16) short_exact k.parent _ _ h.parent
    ∙ (fit_token (number_form most_64) long_exact k.number _ _ h.number ∙ fit_token members_form members_exact k.members ts ps h.members)

pub kind_own : (kd : Kind) (k : Key) (ts : List (List ℕ)) (ps : List Piece) → IsKey k → fit (key_pieces kd ++ ps) (behind_kind kd k ++ ts) ≡ fit ps ts
kind_own kind.From k ts ps h = fit_token tag_form tag_exact k.tag _ _ h.tag ∙ fit_token members_form members_exact k.members ts ps h.members
kind_own kind.Group k ts ps h = numbers_own k ts ps h
kind_own kind.Dup k ts ps h = numbers_own k ts ps h
kind_own kind.Split k ts ps h = numbers_own k ts ps h
kind_own kind.Share k ts ps h = numbers_own k ts ps h

key_own : (kd : Kind) (k : Key) (ts : List (List ℕ)) (ps : List Piece) → IsKey k → fit (branch key ∷ ps) (kind_text kd ∷ (behind_kind kd k ++ ts)) ≡ fit ps ts
key_own kind.From k ts ps h = fit_word word.From key _ ps ∙ kind_own kind.From k ts ps h
key_own kind.Group k ts ps h = fit_word word.Group key _ ps ∙ kind_own kind.Group k ts ps h
key_own kind.Dup k ts ps h = fit_word word.Dup key _ ps ∙ kind_own kind.Dup k ts ps h
key_own kind.Split k ts ps h = fit_word word.Split key _ ps ∙ kind_own kind.Split k ts ps h
key_own kind.Share k ts ps h = fit_word word.Share key _ ps ∙ kind_own kind.Share k ts ps h

kind_alone : (j k : Kind) → kind_text j ≡ kind_text k → j ≡ k
kind_alone kind.From kind.From e = refl
kind_alone kind.Group kind.Group e = refl
kind_alone kind.Dup kind.Dup e = refl
kind_alone kind.Split kind.Split e = refl
kind_alone kind.Share kind.Share e = refl
kind_alone j k e = absurd (apart _ _ e refl)

numbers_alone : (a b : Key) (r s : List (List ℕ)) → IsKey a → IsKey b → a.kind ≡ b.kind → a.tag ≡ [] → b.tag ≡ []
    → decimal a.parent ∷ decimal a.number ∷ members_form.text a.members ∷ r ≡ decimal b.parent ∷ decimal b.number ∷ members_form.text b.members ∷ s → (a ≡ b) × (r ≡ s)
numbers_alone a b r s h k q t u e =
    let p = token_same (number_form most_16) short_exact a.parent b.parent _ _ h.parent k.parent e in
    let n = token_same (number_form most_64) long_exact a.number b.number _ _ h.number k.number p.1 in
    let m = token_same members_form members_exact a.members b.members _ _ h.members k.members n.1 in
    let x = key_is a in
    let y = key_is b in
    let p0 = p.0 in
    let n0 = n.0 in
    let m0 = m.0 in
    let v : a.tag ≡ b.tag = t ∙ sym u in
    (sym x ∙ (rw (p0, q, n0, v, m0) y), m.1)

behind_alone : (kd : Kind) (a b : Key) (r s : List (List ℕ)) → IsKey a → IsKey b → a.kind ≡ b.kind → ShowsAll kd a → ShowsAll kd b
    → behind_kind kd a ++ r ≡ behind_kind kd b ++ s → (a ≡ b) × (r ≡ s)
behind_alone kind.From a b r s h k q t u e =
    let g = token_same tag_form tag_exact a.tag b.tag _ _ h.tag k.tag e in
    let m = token_same members_form members_exact a.members b.members _ _ h.members k.members g.1 in
    let x = key_is a in
    let y = key_is b in
    let g0 = g.0 in
    let m0 = m.0 in
    let p : a.parent ≡ b.parent = t.0 ∙ sym u.0 in
    let n : a.number ≡ b.number = t.1 ∙ sym u.1 in
    (sym x ∙ (rw (p, q, n, g0, m0) y), m.1)
behind_alone kind.Group a b r s h k q t u e = numbers_alone a b r s h k q t u e
behind_alone kind.Dup a b r s h k q t u e = numbers_alone a b r s h k q t u e
behind_alone kind.Split a b r s h k q t u e = numbers_alone a b r s h k q t u e
behind_alone kind.Share a b r s h k q t u e = numbers_alone a b r s h k q t u e

key_alone : (a b : Key) (r s : List (List ℕ)) → IsKey a → IsKey b → key_tokens a ++ r ≡ key_tokens b ++ s → (a ≡ b) × (r ≡ s)
key_alone a b r s h k e =
    let q = kind_alone a.kind b.kind (head_same _ _ _ _ e) in
    let t = tail_same _ _ _ _ e in
    let u = h.shows_all in
    let v = k.shows_all in
    behind_alone b.kind a b r s h k q (subst (λ (kd : Kind). ShowsAll kd a) q u) v (subst (λ (kd : Kind). behind_kind kd a ++ r ≡ behind_kind b.kind b ++ s) q t)

kind_solid : (kd : Kind) (k : Key) → IsKey k → AllByRecursion IsSolid (kind_text kd ∷ behind_kind kd k)
kind_solid kind.From k h = (refl, (tag_exact.solid k.tag h.tag, (members_exact.solid k.members h.members, tt)))
kind_solid kind.Group k h = (refl, (short_exact.solid k.parent h.parent, (long_exact.solid k.number h.number, (members_exact.solid k.members h.members, tt))))
kind_solid kind.Dup k h = (refl, (short_exact.solid k.parent h.parent, (long_exact.solid k.number h.number, (members_exact.solid k.members h.members, tt))))
kind_solid kind.Split k h = (refl, (short_exact.solid k.parent h.parent, (long_exact.solid k.number h.number, (members_exact.solid k.members h.members, tt))))
kind_solid kind.Share k h = (refl, (short_exact.solid k.parent h.parent, (long_exact.solid k.number h.number, (members_exact.solid k.members h.members, tt))))

-- keys
pub key_sure : IsSure key_part
key_sure = record {
  own = λ k ts ps h. key_own k.kind k ts ps h;
  alone = key_alone;
  solid = λ k h. kind_solid k.kind k h;
}

-- whether an offer owns the mask
owning_own : (own : Bool) (ts : List (List ℕ)) (ps : List Piece) → fit (branch row.owning ∷ ps) (said_tokens (owning_said own) ++ ts) ≡ fit ps ts
owning_own true ts ps = fit_word word.Own row.owning ts ps
owning_own false ts ps = fit_word word.Zero row.owning ts ps

owning_alone : (a b : Bool) (r s : List (List ℕ)) → said_tokens (owning_said a) ++ r ≡ said_tokens (owning_said b) ++ s → (a ≡ b) × (r ≡ s)
owning_alone true true r s e = (refl, tail_same _ _ _ _ e)
owning_alone false false r s e = (refl, tail_same _ _ _ _ e)
owning_alone true false r s e = absurd (apart _ _ (head_same _ _ _ _ e) refl)
owning_alone false true r s e = absurd (apart _ _ (head_same _ _ _ _ e) refl)

owning_solid : (own : Bool) → AllByRecursion IsSolid (said_tokens (owning_said own))
owning_solid true = (refl, tt)
owning_solid false = (refl, tt)

pub owning_sure : IsSure owning_part
owning_sure = record { own = λ o ts ps h. owning_own o ts ps; alone = λ a b r s h k e. owning_alone a b r s e; solid = λ o h. owning_solid o }

-- verdicts
verdict_own : (s : Said) (ts : List (List ℕ)) (ps : List Piece) → IsVerdict s → fit (branch row.verdict ∷ ps) (said_tokens s ++ ts) ≡ fit ps ts
verdict_own said.Ready ts ps h = fit_word word.Ready row.verdict ts ps
verdict_own said.Retry ts ps h = fit_word word.Retry row.verdict ts ps
verdict_own (said.Picked c) ts ps h = fit_word word.Pick row.verdict _ ps ∙ fit_token picked_form picked_exact (Some c) ts ps h
verdict_own said.Exhausted ts ps h = fit_word word.Pick row.verdict _ ps ∙ fit_token picked_form picked_exact None ts ps tt
verdict_own _ ts ps h = absurd h

-- what is picked, if one thing or another is
picked_said : Option ℕ → Said
picked_said None = said.Exhausted
picked_said (Some c) = said.Picked c

verdict_alone : (a b : Said) (r s : List (List ℕ)) → IsVerdict a → IsVerdict b → said_tokens a ++ r ≡ said_tokens b ++ s → (a ≡ b) × (r ≡ s)
unfolding picked_said
verdict_alone said.Own b r s h k e = absurd h
verdict_alone said.Zero b r s h k e = absurd h
verdict_alone said.Shared b r s h k e = absurd h
verdict_alone a said.Own r s h k e = absurd k
verdict_alone a said.Zero r s h k e = absurd k
verdict_alone a said.Shared r s h k e = absurd k
verdict_alone said.Ready said.Ready r s h k e = (refl, tail_same _ _ _ _ e)
verdict_alone said.Retry said.Retry r s h k e = (refl, tail_same _ _ _ _ e)
verdict_alone (said.Picked c) (said.Picked d) r s h k e = let p = token_same picked_form picked_exact (Some c) (Some d) r s h k (tail_same _ _ _ _ e) in (ap picked_said p.0, p.1)
verdict_alone (said.Picked c) said.Exhausted r s h k e = let p = token_same picked_form picked_exact (Some c) None r s h tt (tail_same _ _ _ _ e) in (ap picked_said p.0, p.1)
verdict_alone said.Exhausted (said.Picked d) r s h k e = let p = token_same picked_form picked_exact None (Some d) r s tt k (tail_same _ _ _ _ e) in (ap picked_said p.0, p.1)
verdict_alone said.Exhausted said.Exhausted r s h k e = (refl, tail_same _ _ _ _ (tail_same _ _ _ _ e))
verdict_alone a b r s h k e = absurd (apart _ _ (head_same _ _ _ _ e) refl)

verdict_solid : (s : Said) → IsVerdict s → AllByRecursion IsSolid (said_tokens s)
verdict_solid said.Ready h = (refl, tt)
verdict_solid said.Retry h = (refl, tt)
verdict_solid (said.Picked c) h = (refl, (picked_exact.solid (Some c) h, tt))
verdict_solid said.Exhausted h = (refl, (refl, tt))
verdict_solid _ h = absurd h

pub verdict_sure : IsSure verdict_part
verdict_sure = record { own = verdict_own; alone = verdict_alone; solid = verdict_solid }
