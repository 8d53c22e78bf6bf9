-- Words and their texts are one to one.
use Rattle.std.proofs.Common.{◌≡◌, ℕ, Bool, true, false, cond, List, [], ◌∷◌, Option, Some, None, IfSome, find, bytes_eq, refl, sym, ap, ◌∙◌}
use Rattle.std.proofs.lemmas.Slice.Eq.{bytes_eq-Decides}
use Rattle.entry_text.specs.Words.{word_text, all_words, word_in}
use Rattle.entry_text.specs.declared.words.Word.{Word}
use Rattle.entry_text.specs.declared.words.Word.TheVariants as word

-- each word is found by its text
pub word_again : (w : Word) → word_in (word_text w) ≡ Some w
word_again word.Call = refl
word_again word.Answer = refl
word_again word.Deliver = refl
word_again word.Offer = refl
word_again word.Settle = refl
word_again word.Leave = refl
word_again word.Back = refl
word_again word.From = refl
word_again word.Group = refl
word_again word.Dup = refl
word_again word.Split = refl
word_again word.Share = refl
word_again word.Shares = refl
word_again word.Up = refl
word_again word.Down = refl
word_again word.Msg = refl
word_again word.Marker = refl
word_again word.Own = refl
word_again word.Zero = refl
word_again word.Ready = refl
word_again word.Retry = refl
word_again word.Pick = refl
word_again word.Shared = refl
word_again word.Mark = refl
word_again word.Match = refl
word_again word.Drop = refl
word_again word.Gives = refl
word_again word.Fine = refl
word_again word.Err = refl
word_again word.Null = refl
word_again word.Psets = refl
word_again word.Name = refl
word_again word.Info = refl
word_again word.Ranks = refl
word_again word.Ident = refl
word_again word.Congruent = refl
word_again word.Similar = refl
word_again word.Unequal = refl
word_again word.Size = refl
word_again word.Rank = refl
word_again word.Comm = refl
word_again word.Received = refl

-- two words with one text are one
pub word_alone : (v w : Word) → word_text v ≡ word_text w → v ≡ w
word_alone v w e = some_same (sym (word_again v) ∙ (ap word_in e ∙ word_again w))
  where
    some_same : Some v ≡ Some w → v ≡ w
    some_same q = cc

-- what holds of what is found by a test
pub found_of : {A : Type 0} (test : A → Bool) (xs : List A) (x : A) → find test xs ≡ Some x → test x ≡ true
found_of test [] x e = absurd (cc)
found_of {A} test (y ∷ ys) x e = go (test y) refl e (found_of test ys x)
  where
    go : (b : Bool) → test y ≡ b → cond b (Some y) (find test ys) ≡ Some x → (find test ys ≡ Some x → test x ≡ true) → test x ≡ true
    go true p r ih = let s : y ≡ x = cc in cc (s, p)
    go false p r ih = ih r

-- a word that is found has the text
pub found_word : (text : List ℕ) (o : Option Word) → o ≡ word_in text → IfSome o (λ w. word_text w ≡ text)
found_word text (Some w) e = (bytes_eq-Decides (word_text w) text).0 (found_of (λ v. bytes_eq (word_text v) text) all_words w (sym e))
found_word text None e = tt
