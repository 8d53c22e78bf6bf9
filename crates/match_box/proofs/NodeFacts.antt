-- The nodes by number, as the slab has them.
use Rattle.std.proofs.Common.{◌≡◌, ◌≢◌, ◌⊎◌, ℕ, zero, suc, ◌+◌, ◌<◌, ◌≤◌, ◌==◌, if◌then◌else◌, Bool, true, false, not, nat_eq, List, [], ◌∷◌, ◌++◌, map, filter, length, Option, Some, None, option_map, get_or, refl, sym, ap, subst, ◌∙◌, inl, inr, add-one, arith}
use Rattle.std.proofs.lemmas.Bool.Decides.{nat_tests}
use Rattle.match_box.specs.declared.node.Node.{Node}
use Rattle.match_box.specs.declared.node.Ends.{Ends}
use Rattle.match_box.specs.Rows.{AllOf}
use Rattle.match_box.specs.Nodes.{find_from, shown, nodes_in, led, Rising, AreNumbered}

pub AllOf-append : {A : Type 0} (P : A → Type 0) (xs ys : List A) → AllOf P xs → AllOf P ys → AllOf P (xs ++ ys)
AllOf-append P [] ys p q = q
AllOf-append P (x ∷ xs) ys p q = (p.0, AllOf-append P xs ys p.1 q)

pub AllOf-to : {A : Type 0} (P Q : A → Type 0) (xs : List A) → ((x : A) → P x → Q x) → AllOf P xs → AllOf Q xs
AllOf-to P Q [] to p = p
AllOf-to P Q (x ∷ xs) to p = (to x p.0, AllOf-to P Q xs to p.1)

pub map_both : {A B : Type 0} (f : A → B) (xs ys : List A) → map f (xs ++ ys) ≡ map f xs ++ map f ys
map_both f [] ys = refl
map_both f (x ∷ xs) ys = ap (λ zs. f x ∷ zs) (map_both f xs ys)

filter_both : {A : Type 0} (test : A → Bool) (xs ys : List A) → filter test (xs ++ ys) ≡ filter test xs ++ filter test ys
filter_both test [] ys = refl
filter_both test (x ∷ xs) ys = let later = filter_both test xs ys in grind (arith, later)

pub len_both : {A : Type 0} (xs ys : List A) → length (xs ++ ys) ≡ length xs + length ys
len_both [] ys = omega arith
len_both (x ∷ xs) ys = let later = len_both xs ys in omega (arith, later)

some_is : {A : Type 0} (a b : A) → Some a ≡ Some b → a ≡ b
some_is a b is = cc (is)

some_none : {A : Type 0} (a : A) → Some a ≡ None → ⊥
some_none a is = cc (is)

module _ {T : Type 0} where
  pair_is : (n : ℕ × Node T) (k : ℕ) (node : Node T) → Some n ≡ Some (k, node) → (n.0 ≡ k) × (n.1 ≡ node)
  pair_is n k node is =
      let same = some_is n (k, node) is in
      (ap (λ (m : ℕ × Node T). m.0) same, ap (λ (m : ℕ × Node T). m.1) same)

  -- a node that is found is in its slot
  find_from-found : (number key k : ℕ) (node : Node T) (slots : List (Option (Node T))) → find_from number key slots ≡ Some (k, node)
      → (j : ℕ) × (k ≡ key + j) × (get_or slots j None ≡ Some node) × (node.number ≡ number)
  find_from-found number key k node [] is = absurd (cc (is))
  find_from-found number key k node (None ∷ slots) is =
      let there = find_from-found number (key + 1) k node slots is in
      (suc there.0, omega (arith, there.1), there.2, there.3)
  find_from-found number key k node (Some other ∷ slots) is = go (other.number == number) refl (find_from-found number (key + 1) k node slots)
    where
      go : (b : Bool) → (other.number == number) ≡ b
          → (find_from number (key + 1) slots ≡ Some (k, node) → (j : ℕ) × (k ≡ (key + 1) + j) × (get_or slots j None ≡ Some node) × (node.number ≡ number))
          → (j : ℕ) × (k ≡ key + j) × (get_or (Some other ∷ slots) j None ≡ Some node) × (node.number ≡ number)
      go true same later =
          let both = pair_is (key, other) k node (sym (ap (λ b. if b then Some (key, other) else find_from number (key + 1) slots) same) ∙ is) in
          let key_is = both.0 in
          let node_is = both.1 in
          (0, omega (arith, key_is), ap Some node_is, sym (ap (λ (n : Node T). n.number) node_is) ∙ grind (arith, nat_tests, same))
      go false differs later =
          let there = later (grind (arith, is, differs)) in
          (suc there.0, omega (arith, there.1), there.2, there.3)

  -- the first node with the number is found
  find_from-is : (number key j : ℕ) (node : Node T) (slots : List (Option (Node T))) → get_or slots j None ≡ Some node → node.number ≡ number
      → ((i : ℕ) (other : Node T) → i < j → get_or slots i None ≡ Some other → other.number ≢ number)
      → find_from number key slots ≡ Some (key + j, node)
  find_from-is number key j node [] at is before = absurd (cc (at))
  find_from-is number key zero node (None ∷ slots) at is before = absurd (cc (at))
  find_from-is number key zero node (Some other ∷ slots) at is before =
      let node_is : other ≡ node = cc (at) in
      let number_is : other.number ≡ number = ap (λ (n : Node T). n.number) node_is ∙ is in
      let key_is : key ≡ key + 0 = omega arith in
      let same : (other.number == number) ≡ true = grind (arith, nat_tests, number_is) in
      ap (λ b. if b then Some (key, other) else find_from number (key + 1) slots) same ∙ ap (λ k. Some (k, other)) key_is ∙ ap (λ n. Some (key + 0, n)) node_is
  find_from-is number key (suc j) node (None ∷ slots) at is before =
      let later = find_from-is number (key + 1) j node slots at is (λ i other below. before (suc i) other (omega (arith, below))) in
      let key_is : (key + 1) + j ≡ key + suc j = omega arith in
      later ∙ ap (λ k. Some (k, node)) key_is
  find_from-is number key (suc j) node (Some other ∷ slots) at is before =
      let later = find_from-is number (key + 1) j node slots at is (λ i twin below. before (suc i) twin (omega (arith, below))) in
      let key_is : (key + 1) + j ≡ key + suc j = omega arith in
      let apart : other.number ≢ number = before 0 other (omega arith) refl in
      let differs : (other.number == number) ≡ false = grind (arith, nat_tests, apart) in
      ap (λ b. if b then Some (key, other) else find_from number (key + 1) slots) differs ∙ later ∙ ap (λ k. Some (k, node)) key_is

  find_from-none : (number key : ℕ) (slots : List (Option (Node T))) → ((i : ℕ) (other : Node T) → get_or slots i None ≡ Some other → other.number ≢ number) → find_from number key slots ≡ None
  find_from-none number key [] each = refl
  find_from-none number key (None ∷ slots) each = find_from-none number (key + 1) slots (λ i other at. each (suc i) other at)
  find_from-none number key (Some other ∷ slots) each =
      let later = find_from-none number (key + 1) slots (λ i twin at. each (suc i) twin at) in
      let apart : other.number ≢ number = each 0 other refl in
      let differs : (other.number == number) ≡ false = grind (arith, nat_tests, apart) in
      ap (λ b. if b then Some (key, other) else find_from number (key + 1) slots) differs ∙ later

  -- what is found in slots whose numbers differ
  find-found : (slots : List (Option (Node T))) (number k : ℕ) (node : Node T) → find_from number 0 slots ≡ Some (k, node)
      → (get_or slots k None ≡ Some node) × (node.number ≡ number)
  find-found slots number k node is =
      let there = find_from-found number 0 k node slots is in
      let key_is : there.0 ≡ k = omega (arith, there.1) in
      (subst (λ j. get_or slots j None ≡ Some node) key_is there.2, there.3)

  find-is : (slots : List (Option (Node T))) (count number k : ℕ) (node : Node T) → AreNumbered slots count → get_or slots k None ≡ Some node → node.number ≡ number
      → find_from number 0 slots ≡ Some (k, node)
  find-is slots count number k node numbered at is =
      let key_is : 0 + k ≡ k = omega arith in
      find_from-is number 0 k node slots at is
      (λ i other below there same. absurd (omega (arith, below, numbered.alone i k other node there at (same ∙ sym is))))
      ∙ ap (λ j. Some (j, node)) key_is

  -- an answer that is right is what is found
  find-to : (slots : List (Option (Node T))) (count number : ℕ) (answer : Option (ℕ × Node T)) → AreNumbered slots count
      → (answer ≡ None → (k : ℕ) (node : Node T) → get_or slots k None ≡ Some node → node.number ≢ number)
      → ((k : ℕ) (node : Node T) → answer ≡ Some (k, node) → (get_or slots k None ≡ Some node) × (node.number ≡ number))
      → find_from number 0 slots ≡ answer
  find-to slots count number None numbered none some = find_from-none number 0 slots (none refl)
  find-to slots count number (Some n) numbered none some =
      let there = some n.0 n.1 refl in
      find-is slots count number n.0 n.1 numbered there.0 there.1

  pub numbered-none : AreNumbered {T = T} [] 0
  numbered-none = record {
    each = λ k node is. absurd (cc (is));
    alone = λ k j node twin is there same. absurd (cc (is));
  }

  led-number : (at : Option Ends) (next key : ℕ) (node : Node T) → (led at next key node).number ≡ node.number
  led-number None next key node = refl
  led-number (Some ends) next key node = grind (arith)

  led-back : (at : Option Ends) (next key : ℕ) (found : Option (Node T)) (node : Node T) → option_map (led at next key) found ≡ Some node
      → (old : Node T) × (found ≡ Some old) × (led at next key old ≡ node)
  led-back at next key None node is = absurd (cc (is))
  led-back at next key (Some old) node is = (old, refl, cc (is))

  abbrev pub Leads : List (Option (Node T)) → List (Option (Node T)) → Option Ends → ℕ → Type 0
  Leads old new at next = (k : ℕ) → get_or new k None ≡ option_map (led at next k) (get_or old k None)

  -- one node leads to another
  pub numbered-led : (old new : List (Option (Node T))) (at : Option Ends) (next count : ℕ) → Leads old new at next → AreNumbered old count → AreNumbered new count
  numbered-led old new at next count leads numbered = record {
    each = λ k node is.
        let back = led-back at next k (get_or old k None) node (sym (leads k) ∙ is) in
        let same : node.number ≡ back.0.number = sym (ap (λ (n : Node T). n.number) back.2) ∙ led-number at next k back.0 in
        let here = numbered.each k back.0 back.1 in
        (omega (arith, same, here.0), omega (arith, same, here.1));
    alone = λ k j node twin is there same.
        let one = led-back at next k (get_or old k None) node (sym (leads k) ∙ is) in
        let two = led-back at next j (get_or old j None) twin (sym (leads j) ∙ there) in
        let first : node.number ≡ one.0.number = sym (ap (λ (n : Node T). n.number) one.2) ∙ led-number at next k one.0 in
        let second : twin.number ≡ two.0.number = sym (ap (λ (n : Node T). n.number) two.2) ∙ led-number at next j two.0 in
        numbered.alone k j one.0 two.0 one.1 two.1 (sym first ∙ same ∙ second);
  }

  abbrev pub led_one : Option Ends → ℕ → ℕ × Node T → ℕ × Node T
  led_one at next n = (n.0, led at next n.0 n.1)

  find-led : (old new : List (Option (Node T))) (at : Option Ends) (next count number : ℕ) → Leads old new at next → AreNumbered old count
      → find_from number 0 new ≡ option_map (led_one at next) (find_from number 0 old)
  find-led old new at next count number leads numbered =
      find-to new count number (option_map (led_one at next) (find_from number 0 old)) (numbered-led old new at next count leads numbered)
      (λ none k node is same.
      let back = led-back at next k (get_or old k None) node (sym (leads k) ∙ is) in
      let number_is : back.0.number ≡ number = sym (led-number at next k back.0) ∙ ap (λ (n : Node T). n.number) back.2 ∙ same in
      let found = find-is old count number k back.0 numbered back.1 number_is in
      let gone = sym (ap (option_map (led_one at next)) found) ∙ none in
      absurd (some_none (led_one at next (k, back.0)) gone))
      (λ k node is. some k node (find_from number 0 old) refl is)
    where
      some : (k : ℕ) (node : Node T) (found : Option (ℕ × Node T)) → find_from number 0 old ≡ found → option_map (led_one at next) found ≡ Some (k, node)
          → (get_or new k None ≡ Some node) × (node.number ≡ number)
      some k node None at' is = absurd (cc (is))
      some k node (Some n) at' is =
          let both = pair_is (led_one at next n) k node is in
          let key_is = both.0 in
          let node_is = both.1 in
          let there = find-found old number n.0 n.1 at' in
          let here : get_or new n.0 None ≡ Some node = leads n.0 ∙ ap (option_map (led at next n.0)) there.0 ∙ ap Some node_is in
          (subst (λ j. get_or new j None ≡ Some node) key_is here, sym (ap (λ (m : Node T). m.number) node_is) ∙ led-number at next n.0 n.1 ∙ there.1)

  -- one slot changes
  abbrev pub Puts : List (Option (Node T)) → List (Option (Node T)) → ℕ → Option (Node T) → Type 0
  Puts old new key slot = (k : ℕ) → get_or new k None ≡ (if nat_eq key k then slot else get_or old k None)

  -- one more node, with the next number
  pub numbered-put : (old new : List (Option (Node T))) (key count : ℕ) (node : Node T) → Puts old new key (Some node) → node.number ≡ count + 1 → AreNumbered old count
      → AreNumbered new (count + 1)
  numbered-put old new key count node puts is numbered = record { each = is_each; alone = is_alone }
    where
      part : (k : ℕ) (other : Node T) → get_or new k None ≡ Some other → ((key ≡ k) × (node ≡ other)) ⊎ ((key ≢ k) × (get_or old k None ≡ Some other))
      part k other at = go (nat_eq key k) refl
        where
          go : (b : Bool) → nat_eq key k ≡ b → ((key ≡ k) × (node ≡ other)) ⊎ ((key ≢ k) × (get_or old k None ≡ Some other))
          go true same =
              let both : Some node ≡ Some other = sym (puts k ∙ ap (λ b. if b then Some node else get_or old k None) same) ∙ at in
              inl (grind (arith, nat_tests, same), cc (both))
          go false differs = inr (grind (arith, nat_tests, differs), sym (puts k ∙ ap (λ b. if b then Some node else get_or old k None) differs) ∙ at)

      is_each : (k : ℕ) (other : Node T) → get_or new k None ≡ Some other → (0 < other.number) × (other.number ≤ count + 1)
      is_each k other at = go (part k other at)
        where
          go : ((key ≡ k) × (node ≡ other)) ⊎ ((key ≢ k) × (get_or old k None ≡ Some other)) → (0 < other.number) × (other.number ≤ count + 1)
          go (inl here) = let number = sym (ap (λ (n : Node T). n.number) here.1) ∙ is in (omega (arith, number), omega (arith, number))
          go (inr there) = let both = numbered.each k other there.1 in (both.0, omega (arith, both.1))

      is_alone : (k j : ℕ) (a b : Node T) → get_or new k None ≡ Some a → get_or new j None ≡ Some b → a.number ≡ b.number → k ≡ j
      is_alone k j a b at there same = go (part k a at) (part j b there)
        where
          go : ((key ≡ k) × (node ≡ a)) ⊎ ((key ≢ k) × (get_or old k None ≡ Some a)) → ((key ≡ j) × (node ≡ b)) ⊎ ((key ≢ j) × (get_or old j None ≡ Some b)) → k ≡ j
          go (inl x) (inl y) = sym x.0 ∙ y.0
          go (inl x) (inr y) =
              let number = sym (ap (λ (n : Node T). n.number) x.1) ∙ is in
              let both = numbered.each j b y.1 in
              absurd (omega (arith, number, both.1, same))
          go (inr x) (inl y) =
              let number = sym (ap (λ (n : Node T). n.number) y.1) ∙ is in
              let both = numbered.each k a x.1 in
              absurd (omega (arith, number, both.1, same))
          go (inr x) (inr y) = numbered.alone k j a b x.1 y.1 same

  -- the earlier ones are found as before
  find-put : (old new : List (Option (Node T))) (key count number : ℕ) (node : Node T) → Puts old new key (Some node) → get_or old key None ≡ None → node.number ≡ count + 1 → AreNumbered old count
      → number ≤ count → find_from number 0 new ≡ find_from number 0 old
  find-put old new key count number node puts fresh is numbered within =
      find-to new (count + 1) number (find_from number 0 old) (numbered-put old new key count node puts is numbered)
      (λ none k other at same. go none k other at same (nat_eq key k) refl)
      (λ k other at. some k other at (nat_eq key k) refl)
    where
      go : find_from number 0 old ≡ None → (k : ℕ) (other : Node T) → get_or new k None ≡ Some other → other.number ≡ number → (b : Bool) → nat_eq key k ≡ b → ⊥
      go none k other at same true here =
          let both : Some node ≡ Some other = sym (puts k ∙ ap (λ b. if b then Some node else get_or old k None) here) ∙ at in
          let node_is : node ≡ other = cc (both) in
          let number_is : node.number ≡ other.number = ap (λ (n : Node T). n.number) node_is in
          omega (arith, number_is, is, same, within)
      go none k other at same false differs =
          let there : get_or old k None ≡ Some other = sym (puts k ∙ ap (λ b. if b then Some node else get_or old k None) differs) ∙ at in
          let found = find-is old count number k other numbered there same in
          cc (none, found)

      some : (k : ℕ) (other : Node T) → find_from number 0 old ≡ Some (k, other) → (b : Bool) → nat_eq key k ≡ b → (get_or new k None ≡ Some other) × (other.number ≡ number)
      some k other at true here =
          let there = find-found old number k other at in
          let key_is : key ≡ k = grind (arith, nat_tests, here) in
          absurd (cc (fresh, there.0, key_is))
      some k other at false differs =
          let there = find-found old number k other at in
          (puts k ∙ ap (λ b. if b then Some node else get_or old k None) differs ∙ there.0, there.1)

  -- one node less
  pub numbered-less : (old new : List (Option (Node T))) (key count : ℕ) → Puts old new key None → AreNumbered old count → AreNumbered new count
  numbered-less old new key count puts numbered = record {
    each = λ k node at. numbered.each k node (back k node at);
    alone = λ k j node twin at there same. numbered.alone k j node twin (back k node at) (back j twin there) same;
  }
    where
      back : (k : ℕ) (node : Node T) → get_or new k None ≡ Some node → get_or old k None ≡ Some node
      back k node at = go (nat_eq key k) refl
        where
          go : (b : Bool) → nat_eq key k ≡ b → get_or old k None ≡ Some node
          go true here =
              let none : None ≡ Some node = sym (puts k ∙ ap (λ b. if b then None else get_or old k None) here) ∙ at in
              absurd (cc (none))
          go false differs = sym (puts k ∙ ap (λ b. if b then None else get_or old k None) differs) ∙ at

  -- without the node of a key
  abbrev pub less : ℕ → List (ℕ × Node T) → List (ℕ × Node T)
  less k ns = filter (λ p. not (k == p.0)) ns

  abbrev unless_at : ℕ → Option (ℕ × Node T) → Option (ℕ × Node T)
  unless_at key None = None
  unless_at key (Some n) = if key == n.0 then None else Some n

  find-less : (old new : List (Option (Node T))) (key count number : ℕ) → Puts old new key None → AreNumbered old count
      → find_from number 0 new ≡ unless_at key (find_from number 0 old)
  find-less old new key count number puts numbered =
      find-to new count number (unless_at key (find_from number 0 old)) (numbered-less old new key count puts numbered)
      (λ none k node at same. fails none k node at same (nat_eq key k) refl)
      (λ k node is. some k node (find_from number 0 old) refl is)
    where
      fails : unless_at key (find_from number 0 old) ≡ None → (k : ℕ) (node : Node T) → get_or new k None ≡ Some node → node.number ≡ number → (b : Bool) → nat_eq key k ≡ b → ⊥
      fails none k node at same true here =
          let gone : None ≡ Some node = sym (puts k ∙ ap (λ b. if b then None else get_or old k None) here) ∙ at in
          cc (gone)
      fails none k node at same false differs =
          let there : get_or old k None ≡ Some node = sym (puts k ∙ ap (λ b. if b then None else get_or old k None) differs) ∙ at in
          let found = find-is old count number k node numbered there same in
          let apart : (key == k) ≡ false = grind (arith, nat_tests, differs) in
          let stays : Some (k, node) ≡ None = sym (ap (λ b. if b then None else Some (k, node)) apart) ∙ sym (ap (unless_at key) found) ∙ none in
          cc (stays)

      some : (k : ℕ) (node : Node T) (found : Option (ℕ × Node T)) → find_from number 0 old ≡ found → unless_at key found ≡ Some (k, node)
          → (get_or new k None ≡ Some node) × (node.number ≡ number)
      some k node None at is = absurd (cc (is))
      some k node (Some n) at is = go (key == n.0) refl
        where
          go : (b : Bool) → (key == n.0) ≡ b → (get_or new k None ≡ Some node) × (node.number ≡ number)
          go true here =
              let gone : None ≡ Some (k, node) = sym (ap (λ b. if b then None else Some n) here) ∙ is in
              absurd (cc (gone))
          go false differs =
              let both = pair_is n k node (sym (ap (λ b. if b then None else Some n) differs) ∙ is) in
              let key_is = both.0 in
              let node_is = both.1 in
              let there = find-found old number n.0 n.1 at in
              let apart : nat_eq key n.0 ≡ false = grind (arith, nat_tests, differs) in
              let here : get_or new n.0 None ≡ Some n.1 = puts n.0 ∙ ap (λ b. if b then None else get_or old n.0 None) apart ∙ there.0 in
              (subst (λ j. get_or new j None ≡ Some node) key_is (here ∙ ap Some node_is), sym (ap (λ (m : Node T). m.number) node_is) ∙ there.1)

  -- the nodes in order
  nodes_in-same : (old new : List (Option (Node T))) (count : ℕ) → ((n : ℕ) → n ≤ count → find_from n 0 new ≡ find_from n 0 old) → nodes_in new count ≡ nodes_in old count
  unfolding nodes_in
  nodes_in-same old new zero same = refl
  nodes_in-same old new (suc count) same =
      let later = nodes_in-same old new count (λ n within. same n (omega (arith, within))) in
      ap (λ ns. ns ++ shown (find_from (suc count) 0 new)) later
      ∙ ap (λ found. nodes_in old count ++ shown found) (same (suc count) (omega arith))

  abbrev pub led_all : Option Ends → ℕ → List (ℕ × Node T) → List (ℕ × Node T)
  led_all at next ns = map (λ (p : ℕ × Node T). led_one at next p) ns

  shown-led : (at : Option Ends) (next : ℕ) (found : Option (ℕ × Node T)) → shown (option_map (led_one at next) found) ≡ led_all at next (shown found)
  shown-led at next None = refl
  shown-led at next (Some n) = refl

  pub nodes_in-led : (old new : List (Option (Node T))) (at : Option Ends) (next many count : ℕ) → Leads old new at next → AreNumbered old many
      → nodes_in new count ≡ led_all at next (nodes_in old count)
  unfolding nodes_in
  nodes_in-led old new at next many zero leads numbered = refl
  nodes_in-led old new at next many (suc count) leads numbered =
      let later = nodes_in-led old new at next many count leads numbered in
      ap (λ ns. ns ++ shown (find_from (suc count) 0 new)) later
      ∙ ap (λ found. led_all at next (nodes_in old count) ++ shown found) (find-led old new at next many (suc count) leads numbered)
      ∙ ap (λ ns. led_all at next (nodes_in old count) ++ ns) (shown-led at next (find_from (suc count) 0 old))
      ∙ sym (map_both (λ (p : ℕ × Node T). led_one at next p) (nodes_in old count) (shown (find_from (suc count) 0 old)))

  -- one more
  pub nodes_in-put : (old new : List (Option (Node T))) (key count : ℕ) (node : Node T) → Puts old new key (Some node) → get_or old key None ≡ None → node.number ≡ count + 1 → AreNumbered old count
      → nodes_in new (count + 1) ≡ nodes_in old count ++ (key, node) ∷ []
  unfolding nodes_in
  nodes_in-put old new key count node puts fresh is numbered =
      let same : nat_eq key key ≡ true = grind (arith, nat_tests) in
      let at : get_or new key None ≡ Some node = puts key ∙ ap (λ b. if b then Some node else get_or old key None) same in
      let found = find-is new (count + 1) (suc count) key node (numbered-put old new key count node puts is numbered) at (is ∙ add-one count) in
      ap (nodes_in new) (add-one count)
      ∙ ap (λ x. nodes_in new count ++ shown x) found
      ∙ ap (λ ns. ns ++ (key, node) ∷ []) (nodes_in-same old new count (λ n within. find-put old new key count n node puts fresh is numbered within))

  shown-less : (key : ℕ) (found : Option (ℕ × Node T)) → shown (unless_at key found) ≡ less key (shown found)
  shown-less key None = refl
  shown-less key (Some n) = grind (arith, nat_tests)

  -- one less
  pub nodes_in-less : (old new : List (Option (Node T))) (key many count : ℕ) → Puts old new key None → AreNumbered old many
      → nodes_in new count ≡ less key (nodes_in old count)
  unfolding nodes_in
  nodes_in-less old new key many zero puts numbered = refl
  nodes_in-less old new key many (suc count) puts numbered =
      let later = nodes_in-less old new key many count puts numbered in
      ap (λ ns. ns ++ shown (find_from (suc count) 0 new)) later
      ∙ ap (λ found. less key (nodes_in old count) ++ shown found) (find-less old new key many (suc count) puts numbered)
      ∙ ap (λ ns. less key (nodes_in old count) ++ ns) (shown-less key (find_from (suc count) 0 old))
      ∙ sym (filter_both (λ (p : ℕ × Node T). not (key == p.0)) (nodes_in old count) (shown (find_from (suc count) 0 old)))

  -- each node is in its slot, with a number up to the count
  abbrev pub Stays : List (Option (Node T)) → ℕ → ℕ × Node T → Type 0
  Stays slots count n = (n.1.number ≤ count) × (get_or slots n.0 None ≡ Some n.1)

  shown-kept : (slots : List (Option (Node T))) (number : ℕ) (found : Option (ℕ × Node T)) → find_from number 0 slots ≡ found
      → AllOf (λ (n : ℕ × Node T). (n.1.number ≡ number) × (get_or slots n.0 None ≡ Some n.1)) (shown found)
  shown-kept slots number None is = _
  shown-kept slots number (Some n) is = let there = find-found slots number n.0 n.1 is in ((there.1, there.0), _)

  pub nodes_in-kept : (slots : List (Option (Node T))) (count : ℕ) → AllOf (Stays slots count) (nodes_in slots count)
  unfolding nodes_in
  nodes_in-kept slots zero = _
  nodes_in-kept slots (suc count) =
      AllOf-append (Stays slots (suc count)) (nodes_in slots count) (shown (find_from (suc count) 0 slots))
      (AllOf-to (Stays slots count) (Stays slots (suc count)) (nodes_in slots count) (λ n is. (omega (arith, is.0), is.1)) (nodes_in-kept slots count))
      (AllOf-to (λ (n : ℕ × Node T). (n.1.number ≡ suc count) × (get_or slots n.0 None ≡ Some n.1)) (Stays slots (suc count)) (shown (find_from (suc count) 0 slots)) (λ n is. (omega (arith, is.0), is.1))
      (shown-kept slots (suc count) (find_from (suc count) 0 slots) refl))

  Rising-append : (xs ys : List (ℕ × Node T)) (number : ℕ) → AllOf (λ (n : ℕ × Node T). n.1.number < number) xs → AllOf (λ (n : ℕ × Node T). n.1.number ≡ number) ys → Rising xs → Rising ys
      → Rising (xs ++ ys)
  Rising-append [] ys number below is rises rest = rest
  Rising-append (x ∷ xs) ys number below is rises rest = (
    AllOf-append (λ (m : ℕ × Node T). x.1.number < m.1.number) xs ys rises.0 (AllOf-to (λ (n : ℕ × Node T). n.1.number ≡ number) _ ys (λ n same. omega (arith, same, below.0)) is),
    Rising-append xs ys number below.1 is rises.1 rest,
  )

  shown-rising : (found : Option (ℕ × Node T)) → Rising (shown found)
  shown-rising None = _
  shown-rising (Some n) = (_, _)

  pub nodes_in-rising : (slots : List (Option (Node T))) (count : ℕ) → Rising (nodes_in slots count)
  unfolding nodes_in
  nodes_in-rising slots zero = _
  nodes_in-rising slots (suc count) =
      Rising-append (nodes_in slots count) (shown (find_from (suc count) 0 slots)) (suc count)
      (AllOf-to (Stays slots count) _ (nodes_in slots count) (λ n is. omega (arith, is.0)) (nodes_in-kept slots count))
      (AllOf-to (λ (n : ℕ × Node T). (n.1.number ≡ suc count) × (get_or slots n.0 None ≡ Some n.1)) _ (shown (find_from (suc count) 0 slots)) (λ n is. is.0)
      (shown-kept slots (suc count) (find_from (suc count) 0 slots) refl))
      (nodes_in-rising slots count) (shown-rising (find_from (suc count) 0 slots))

  -- the keys differ
  abbrev pub Apart : List (ℕ × Node T) → Type 0
  Apart [] = Unit
  Apart (n ∷ ns) = AllOf (λ m. (n.0 == m.0) ≡ false) ns × Apart ns

  apart_of : (slots : List (Option (Node T))) (count : ℕ) (ns : List (ℕ × Node T)) → Rising ns → AllOf (Stays slots count) ns → Apart ns
  apart_of slots count [] rises stay = _
  apart_of slots count (n ∷ ns) rises stay = (heads ns rises.0 stay.1, apart_of slots count ns rises.1 stay.1)
    where
      one : (m : ℕ × Node T) → n.1.number < m.1.number → get_or slots m.0 None ≡ Some m.1 → (b : Bool) → (n.0 == m.0) ≡ b → (n.0 == m.0) ≡ false
      one m less there false is = is
      one m less there true is =
          let key_is : n.0 ≡ m.0 = grind (arith, nat_tests, is) in
          let both : Some n.1 ≡ Some m.1 = sym stay.0.1 ∙ ap (λ k. get_or slots k None) key_is ∙ there in
          let node_is : n.1 ≡ m.1 = cc (both) in
          let number : n.1.number ≡ m.1.number = ap (λ (x : Node T). x.number) node_is in
          absurd (omega (arith, number, less))

      heads : (ms : List (ℕ × Node T)) → AllOf (λ (m : ℕ × Node T). n.1.number < m.1.number) ms → AllOf (Stays slots count) ms → AllOf (λ (m : ℕ × Node T). (n.0 == m.0) ≡ false) ms
      heads [] above stays = _
      heads (m ∷ ms) above stays = (one m above.0 stays.0.1 (n.0 == m.0) refl, heads ms above.1 stays.1)

  pub nodes_in-apart : (slots : List (Option (Node T))) (count : ℕ) → Apart (nodes_in slots count)
  nodes_in-apart slots count = apart_of slots count (nodes_in slots count) (nodes_in-rising slots count) (nodes_in-kept slots count)

  shown-few : (found : Option (ℕ × Node T)) → length (shown found) ≤ 1
  shown-few None = omega arith
  shown-few (Some n) = omega arith

  -- there are at most as many nodes as numbers
  pub nodes_in-few : (slots : List (Option (Node T))) (count : ℕ) → length (nodes_in slots count) ≤ count
  unfolding nodes_in
  nodes_in-few slots zero = omega arith
  nodes_in-few slots (suc count) =
      let later = nodes_in-few slots count in
      let one = shown-few (find_from (suc count) 0 slots) in
      let both = len_both (nodes_in slots count) (shown (find_from (suc count) 0 slots)) in
      omega (arith, later, one, both)
