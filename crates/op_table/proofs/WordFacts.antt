-- Words and kinds are one to one.
use Rattle.std.proofs.Common.{◌≡◌, ℕ, ◌&&◌, Bool, true, false, cond, List, [], ◌∷◌, Option, Some, None, IfSome, find, bytes_eq, refl, sym, ap, ◌∙◌, arith}
use Rattle.std.proofs.lemmas.Bool.Decides.{nat_tests}
use Rattle.std.specs.List.{list_all}
use Rattle.op_table.specs.Table.{word_text, all_kinds, kind_in}
use Rattle.op_table.specs.declared.kinds.OpKind.{OpKind}
use Rattle.op_table.specs.declared.kinds.OpKind.TheVariants as kind

-- each kind is found by its word
pub kind_again : (k : OpKind) → kind_in (word_text k) ≡ Some k
kind_again kind.Session = refl
kind_again _ = refl

-- two kinds with one word are one
pub kind_alone : (j k : OpKind) → word_text j ≡ word_text k → j ≡ k
kind_alone j k e = some_same (sym (kind_again j) ∙ (ap kind_in e ∙ kind_again k))
  where
    some_same : Some j ≡ Some k → j ≡ k
    some_same q = cc

same_text : (a b : List ℕ) → bytes_eq a b ≡ true → a ≡ b
same_text [] [] h = refl
same_text [] (y ∷ b) h = absurd (cc)
same_text (x ∷ a) [] h = absurd (cc)
same_text (x ∷ a) (y ∷ b) h =
    let p : x ≡ y = grind (arith, nat_tests, h) in
    let q : bytes_eq a b ≡ true = grind (arith, nat_tests, h) in
    cc (p, same_text a b q)

-- what holds of what is found by a test
found_of : (test : OpKind → Bool) (ks : List OpKind) (k : OpKind) → find test ks ≡ Some k → test k ≡ true
found_of test [] k e = absurd (cc)
found_of test (j ∷ js) k e = go (test j) refl e (found_of test js k)
  where
    go : (b : Bool) → test j ≡ b → cond b (Some j) (find test js) ≡ Some k → (find test js ≡ Some k → test k ≡ true) → test k ≡ true
    go true p r ih = let s : j ≡ k = cc in cc (s, p)
    go false p r ih = ih r

-- a kind that is found has the word
pub kind_word : (word : List ℕ) (k : OpKind) → kind_in word ≡ Some k → word_text k ≡ word
kind_word word k e = same_text (word_text k) word (found_of (λ j. bytes_eq (word_text j) word) all_kinds k e)

pub found_word : (word : List ℕ) (o : Option OpKind) → o ≡ kind_in word → IfSome o (λ k. word_text k ≡ word)
found_word word (Some k) e = kind_word word k (sym e)
found_word word None e = tt

-- a rule over the table: what a test computes for all kinds holds of each
pub each_kind : (test : OpKind → Bool) → list_all test all_kinds ≡ true → (k : OpKind) → test k ≡ true
each_kind test h k = go all_kinds h (kind_again k)
  where
    go : (ks : List OpKind) → list_all test ks ≡ true → find (λ j. bytes_eq (word_text j) (word_text k)) ks ≡ Some k → test k ≡ true
    go [] q e = absurd (cc)
    go (j ∷ js) q e = here (bytes_eq (word_text j) (word_text k)) (test j) refl refl q e (go js)
      where
        here : (b t : Bool) → bytes_eq (word_text j) (word_text k) ≡ b → test j ≡ t → (t && list_all test js) ≡ true
            → cond b (Some j) (find (λ i. bytes_eq (word_text i) (word_text k)) js) ≡ Some k
            → (list_all test js ≡ true → find (λ i. bytes_eq (word_text i) (word_text k)) js ≡ Some k → test k ≡ true) → test k ≡ true
        here b false p s q r ih = absurd (cc)
        here true true p s q r ih = let e : j ≡ k = cc in cc (e, s)
        here false true p s q r ih = ih q r
