-- Items of a list, read one by one.
use Rattle.std.proofs.Common.{◌≡◌, ℕ, ◌<◌, ◌≤◌, ◌||◌, not, nat_lt, Bool, true, false, cond, List, [], ◌∷◌, ◌++◌, length, map, Some, None, Result, Err, refl, sym, ap, ◌∙◌, subst, arith, append_assoc, length-append}
use Rattle.std.proofs.lemmas.Grind.{common_steps}
use Rattle.std.proofs.lemmas.Bool.Decides.{nat_tests}
use Rattle.std.specs.List.{list_all, AllByRecursion, join_with_byte}
use Rattle.token_text.specs.Forms.{Form, fault_of}
use Rattle.token_text.specs.Reading.{Shows, Reads}
use Rattle.token_text.specs.Texts.{is_wrapped, inside}
use Rattle.token_text.specs.Lists.{items_of, list_form}
use Rattle.token_text.specs.Steps.{first_of, others_of}
use Rattle.token_text.specs.declared.faults.TokenFault.{TokenFault}
use Rattle.token_text.specs.declared.faults.TokenFault.TheVariants.{NotOfForm}
use Rattle.token_text.proofs.Ranges.{parts_joined}

-- what is kept of the values that were read, and whether they are too many
abbrev pub Kept : {V : Type 0} → Bool → List V → List V → Type 0
Kept false kept vs = (kept ≡ vs) × (length vs ≤ 16)
Kept true kept vs = 16 < length vs

-- of all parts, these are still to come, and the others are texts of values
pub record Seen {V : Type 0} (f : Form V) (all coming : List (List ℕ)) (kept : List V) (is_long : Bool) : Type 0 where
  pub values : List V
  pub parts : all ≡ map f.text values ++ coming
  pub good : list_all f.has (map f.text values) ≡ true
  pub fits : AllByRecursion f.Fits values
  pub keeps : Kept is_long kept values

-- before the first item
pub none_seen : {V : Type 0} (f : Form V) (all : List (List ℕ)) → Seen f all all [] false
none_seen f all = record { values = []; parts = refl; good = refl; fits = tt; keeps = (refl, omega arith) }

-- a part that has no fault is of the form
pub has_of : {V : Type 0} (f : Form V) (t : List ℕ) → fault_of f t ≡ None → f.has t ≡ true
has_of f t h = grind (arith, h)

-- one text more that is of the form
all_more : (p : List ℕ → Bool) (ts : List (List ℕ)) (t : List ℕ) → list_all p ts ≡ true → p t ≡ true → list_all p (ts ++ t ∷ []) ≡ true
all_more p [] t h k = rw k refl
all_more p (u ∷ us) t h k =
    let x : p u ≡ true = grind (arith, h) in
    let y : list_all p us ≡ true = grind (arith, h) in
    let ih = all_more p us t y k in
    rw (x, ih) refl

-- the text of one value more
pub map_more : {V : Type 0} (g : V → List ℕ) (vs : List V) (v : V) → map g (vs ++ v ∷ []) ≡ map g vs ++ g v ∷ []
map_more g [] v = refl
map_more g (u ∷ us) v = ap (λ (r : List (List ℕ)). g u ∷ r) (map_more g us v)

-- one value more that fits
fits_more : {V : Type 0} (P : V → Type 0) (vs : List V) (v : V) → AllByRecursion P vs → P v → AllByRecursion P (vs ++ v ∷ [])
fits_more P [] v h k = (k, tt)
fits_more P (u ∷ us) v h k = (h.0, fits_more P us v h.1 k)

-- one value more is kept where there is room
kept_more : {V : Type 0} (is_long room : Bool) (old new vs : List V) (v : V) → Kept is_long old vs → room ≡ nat_lt (length old) 16 → new ≡ cond room (old ++ v ∷ []) old → Kept (is_long || not room) new (vs ++ v ∷ [])
kept_more true room old new vs v h r p = omega (arith, h, length-append vs (v ∷ []))
kept_more false true old new vs v h r p =
    let e = h.0 in
    let l : length old < 16 = grind (arith, nat_tests, r) in
    let m = ap length e in
    (cc (p, e), omega (arith, l, m, length-append vs (v ∷ [])))
kept_more false false old new vs v h r p =
    let l : length old < 16 → ⊥ = grind (arith, nat_tests, r) in
    let m = ap length h.0 in
    omega (arith, l, m, length-append vs (v ∷ []))

-- the first part and the others
pub parts_are : (ps : List (List ℕ)) (t : List ℕ) → first_of ps ≡ Some t → ps ≡ t ∷ others_of ps
parts_are [] t h = absurd (cc)
parts_are (p ∷ ps) t h = let e : p ≡ t = cc in ap (λ (u : List ℕ). u ∷ ps) e

-- one item more
pub one_seen : {V : Type 0} (f : Form V) (all coming left : List (List ℕ)) (t : List ℕ) (v : V) (old new : List V) (is_long room : Bool) → Seen f all coming old is_long → first_of coming ≡ Some t → left ≡ others_of coming → Shows f t v
    → room ≡ nat_lt (length old) 16 → new ≡ cond room (old ++ v ∷ []) old → Seen f all left new (is_long || not room)
one_seen f all coming left t v old new is_long room s e l h r p =
    let q = parts_are coming t e in
    let x = s.parts in
    let y = h.text in
    let g = has_of f t h.good in
    record {
      values = s.values ++ v ∷ [];
      parts = x ∙ ap (λ (ps : List (List ℕ)). map f.text s.values ++ ps) (q ∙ ap (λ (u : List ℕ). u ∷ others_of coming) y) ∙ sym (append_assoc (map f.text s.values) (f.text v ∷ []) (others_of coming)) ∙ (rw (l, map_more f.text s.values v) refl);
      good = rw (map_more f.text s.values v) (all_more f.has (map f.text s.values) (f.text v) s.good (subst (λ (u : List ℕ). f.has u ≡ true) y g));
      fits = fits_more f.Fits s.values v s.fits h.fits;
      keeps = kept_more is_long room old new s.values v s.keeps r p;
    }

-- a list with a text that does not pass
pub with_bad : (p : List ℕ → Bool) (t : List ℕ) (ts us : List (List ℕ)) → p t ≡ false → list_all p (ts ++ t ∷ us) ≡ false
with_bad p t [] us n = rw n refl
with_bad p t (u ∷ ts) us n = let ih = with_bad p t ts us n in grind (arith, ih)

-- an item that is not of the form
pub bad_seen : {V : Type 0} (f : Form V) (token : List ℕ) (coming : List (List ℕ)) (t : List ℕ) (kept : List V) (is_long : Bool) (fault : TokenFault) → Seen f (items_of token) coming kept is_long → first_of coming ≡ Some t → f.is_long t ≡ false
    → Reads f t (Err fault) → (r : Result (List V) TokenFault) → r ≡ Err fault → Reads (list_form f) token r
bad_seen f token coming t kept is_long fault s e l h r p =
    let q = parts_are coming t e in
    let x = s.parts in
    let n : f.has t ≡ false = grind (arith, h, l) in
    let b = with_bad f.has t (map f.text s.values) (others_of coming) n in
    let i : list_all f.has (items_of token) ≡ false = rw (x, q) b in
    let w : fault ≡ NotOfForm = grind (arith, h, n) in
    let b : fault_of (list_form f) token ≡ Some fault = rw w (grind (arith, i)) in
    rw p b

-- behind the last item nothing is left
pub none_left : (ps : List (List ℕ)) → first_of ps ≡ None → ps ≡ []
none_left [] h = refl
none_left (p ∷ ps) h = absurd (cc)

-- nothing behind
pub no_more : (ts : List (List ℕ)) → ts ++ [] ≡ ts
no_more [] = refl
no_more (t ∷ ts) = ap (λ (r : List (List ℕ)). t ∷ r) (no_more ts)

-- a text between brackets is its items
pub listed : (text : List ℕ) → is_wrapped 91 93 text ≡ true → text ≡ 91 ∷ (inside text ++ 93 ∷ [])
listed t h = grind (arith, nat_tests, common_steps, h)

-- how many texts there are
pub map_length : {V : Type 0} (g : V → List ℕ) (vs : List V) → length (map g vs) ≡ length vs
map_length g [] = refl
map_length g (v ∷ vs) = let ih = map_length g vs in omega (arith, ih)

-- all items were read, and they are not too many
pub all_seen : {V : Type 0} (f : Form V) (token : List ℕ) (coming : List (List ℕ)) (kept : List V) → Seen f (items_of token) coming kept false → first_of coming ≡ None → is_wrapped 91 93 token ≡ true → Shows (list_form f) token kept
all_seen {V} f token coming kept s e w =
    let x : items_of token ≡ map f.text s.values = s.parts ∙ ap (λ (ps : List (List ℕ)). map f.text s.values ++ ps) (none_left coming e) ∙ no_more (map f.text s.values) in
    let k = s.keeps.0 in
    let l = s.keeps.1 in
    let g = s.good in
    let m = map_length f.text s.values in
    subst (λ (vs : List V). Shows (list_form f) token vs) (sym k) (record {
      good = rw (w, x, g, m) (grind (arith, nat_tests, l));
      text = listed token w ∙ ap (λ (t : List ℕ). 91 ∷ (t ++ 93 ∷ [])) (sym (parts_joined 44 (inside token)) ∙ ap (join_with_byte 44) x);
      fits = record { each = s.fits; short = l };
    })
