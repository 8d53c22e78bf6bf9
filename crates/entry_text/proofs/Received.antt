-- Received messages, piece by piece.
use Rattle.std.proofs.Common.{◌≡◌, ℕ, ◌*◌, ◌/◌, ◌==◌, true, false, List, [], ◌∷◌, length, drop, Option, Some, None, codes, decimal, bytes_eq, refl, sym, ap, ◌∙◌, arith}
use Rattle.std.proofs.lemmas.Bool.Decides.{nat_tests}
use Rattle.std.proofs.lemmas.Fmt.{digits_value-decimal, decimal_digit}
use Rattle.std.proofs.lemmas.Slice.Eq.{bytes_eq-Decides}
use Rattle.std.specs.Str.Parse.{digits_value}
use Rattle.mpi_base.specs.declared.replies.Reply.TheVariants.{Received}
use Rattle.token_text.specs.Forms.{fault_of}
use Rattle.token_text.specs.Reading.{Shows}
use Rattle.token_text.specs.Texts.{hex_form}
use Rattle.token_text.specs.declared.faults.TokenFault.{TokenFault}
use Rattle.token_text.proofs.Decimals.{own}
use Rattle.token_text.proofs.Hex.{digits_again}
use Rattle.script_text.specs.Tokens.{texts}
use Rattle.script_text.specs.Reads.{Ahead}
use Rattle.entry_text.specs.Labels.{most_16, most_64, labelled_text}
use Rattle.entry_text.specs.LabelForms.{labelled_form}
use Rattle.entry_text.specs.Grammar.{source, sized, shown_bytes, source_pieces, bytes_piece, fit}
use Rattle.entry_text.specs.Parts.{Took, Stops, Opens, text_part}
use Rattle.entry_text.specs.Replies.{source_text}
use Rattle.entry_text.specs.Reading.{bytes_part, message_part}

-- how many bytes follow
pub len_some : (t : List ℕ) (n : ℕ) (old new : Ahead) → texts old.tokens ≡ t ∷ texts new.tokens → Shows (labelled_form (codes "len=") most_64) t n → Opens (sized ∷ []) (bytes_piece n ∷ []) (labelled_text (codes "len=") n) old new
unfolding fit
len_some t n old new e h =
    let g = h.good in
    let f = h.fits in
    let v : digits_value 10 (drop 4 t) ≡ n = ap (λ (u : List ℕ). digits_value 10 (drop 4 u)) h.text ∙ digits_value-decimal own n (omega (arith, f)) in
    record { text = e ∙ ap (λ (u : List ℕ). u ∷ texts new.tokens) h.text; on = λ rs. rw (e, g, v) refl }

pub len_other : (t : List ℕ) (ts : List (List ℕ)) (fault : TokenFault) (old : Ahead) → texts old.tokens ≡ t ∷ ts → fault_of (labelled_form (codes "len=") most_64) t ≡ Some fault → Stops (sized ∷ []) old
unfolding fit
len_other t ts fault old e h rs = rw (e, h) refl

pub len_none : (old : Ahead) → texts old.tokens ≡ [] → Stops (sized ∷ []) old
unfolding fit
len_none old e rs = rw e refl

-- the null process
pub source_null : (t a : List ℕ) (old new : Ahead) → texts old.tokens ≡ t ∷ texts new.tokens → true ≡ bytes_eq t a → a ≡ codes "src=null" → Opens (source ∷ []) (source_pieces None) (source_text None) old new
unfolding fit
source_null t a old new e b q =
    let h = rw q at b in
    record { text = e ∙ ap (λ (u : List ℕ). u ∷ texts new.tokens) ((bytes_eq-Decides t (codes "src=null")).0 (sym h)); on = λ rs. rw (e, ← h) refl }

-- a rank
pub source_some : (t a : List ℕ) (n : ℕ) (old new : Ahead) → texts old.tokens ≡ t ∷ texts new.tokens → false ≡ bytes_eq t a → a ≡ codes "src=null" → Shows (labelled_form (codes "src=") most_16) t n
    → Opens (source ∷ []) (source_pieces (Some n)) (source_text (Some n)) old new
unfolding fit
source_some t a n old new e b q h =
    let k = rw q at b in
    let g = h.good in
    record { text = e ∙ ap (λ (u : List ℕ). u ∷ texts new.tokens) h.text; on = λ rs. rw (e, ← k, g) refl }

pub source_other : (t a : List ℕ) (ts : List (List ℕ)) (fault : TokenFault) (old : Ahead) → texts old.tokens ≡ t ∷ ts → false ≡ bytes_eq t a → a ≡ codes "src=null" → fault_of (labelled_form (codes "src=") most_16) t ≡ Some fault → Stops (source ∷ []) old
unfolding fit
source_other t a ts fault old e b q h rs = let k = rw q at b in rw (e, ← k, h) refl

pub source_none : (old : Ahead) → texts old.tokens ≡ [] → Stops (source ∷ []) old
unfolding fit
source_none old e rs = rw e refl

half : (n : ℕ) → 2 * n / 2 ≡ n
half n = omega arith

-- a token of bytes shows how many they are
pub shown_length : (bs : List ℕ) → hex_form.Fits bs → shown_bytes (hex_form.text bs) ≡ length bs
shown_length [] h = refl
shown_length (b ∷ bs) h =
    let l = (digits_again (b ∷ bs) h.each).2 in
    let n : bytes_eq (hex_form.text (b ∷ bs)) (codes "-") ≡ false = grind (arith, nat_tests) in
    rw (n, l) (half (length (b ∷ bs)))

-- so many bytes
pub bytes_some : (t bs : List ℕ) (n : ℕ) (old new : Ahead) → texts old.tokens ≡ t ∷ texts new.tokens → Shows hex_form t bs → length bs ≡ n → Took (bytes_part n) bs old new
unfolding fit
bytes_some t bs n old new e h l =
    let g = h.good in
    let s : shown_bytes t ≡ n = ap shown_bytes h.text ∙ (shown_length bs h.fits ∙ l) in
    let q : (n == n) ≡ true = grind (arith, nat_tests) in
    record { text = e ∙ ap (λ (u : List ℕ). u ∷ texts new.tokens) h.text; fits = (l, h.fits); on = λ ps. rw (e, g, s, q) refl }

-- another number of bytes
pub bytes_off : (t bs : List ℕ) (n : ℕ) (ts : List (List ℕ)) (old : Ahead) → texts old.tokens ≡ t ∷ ts → Shows hex_form t bs → (length bs == n) ≡ false → Stops (bytes_piece n ∷ []) old
unfolding fit
bytes_off t bs n ts old e h l qs =
    let g = h.good in
    let s : shown_bytes t ≡ length bs = ap shown_bytes h.text ∙ shown_length bs h.fits in
    rw (e, g, s, l) refl

pub bytes_other : (t : List ℕ) (n : ℕ) (ts : List (List ℕ)) (fault : TokenFault) (old : Ahead) → texts old.tokens ≡ t ∷ ts → fault_of hex_form t ≡ Some fault → Stops (bytes_piece n ∷ []) old
unfolding fit
bytes_other t n ts fault old e h qs = rw (e, h) refl

pub bytes_none : (n : ℕ) (old : Ahead) → texts old.tokens ≡ [] → Stops (bytes_piece n ∷ []) old
unfolding fit
bytes_none n old e qs = rw e refl

pub zero_text : decimal 0 ≡ 48 ∷ []
zero_text = decimal_digit 0 (omega arith)

-- what is received from the null process
pub null_message : (o : Option ℕ) (bs : List ℕ) (old a b c new : Ahead) → o ≡ None → bs ≡ [] → Opens (source ∷ []) (source_pieces o) (source_text o) old a → Took (text_part (codes "tag=any")) tt a b → Took (text_part (codes "len=0")) tt b c → Took (text_part (codes "-")) tt c new
    → Took message_part (Received None None bs) old new
null_message (Some r) bs old a b c new q n s t l m = absurd (cc (q))
null_message None bs old a b c new q n s t l m = record {
  text = rw (n, zero_text) (s.text ∙ (rw (t.text, l.text, m.text) refl));
  fits = n;
  on = λ ps. s.on ps ∙ (t.on _ ∙ (l.on _ ∙ m.on ps));
}
