-- The lists of a box, by its queues.
use Rattle.std.proofs.Common.{◌≡◌, ℕ, suc, ◌+◌, ◌==◌, ◌||◌, nat_lt, if◌then◌else◌, Bool, true, false, not, List, [], ◌∷◌, ◌++◌, map, find, filter, length, Option, Some, None, option_map, refl, sym, ap, subst, ◌∙◌, arith}
use Rattle.std.specs.Option.{IsSome}
use Rattle.std.specs.List.{list_any}
use Rattle.std.proofs.lemmas.Bool.Decides.{nat_tests}
use Rattle.mpi_base.specs.declared.messages.Msg.{Msg}
use Rattle.match_law.specs.declared.rows.Posted.{Posted}
use Rattle.match_law.specs.Box.{fits, allows, arrive, arrived, receive_for, post, posted_to, without_first, kept_on, drop_ctx}
use Rattle.match_law.specs.Tallies.{posted_on}
use Rattle.match_box.specs.declared.queue.Queue.{Queue}
use Rattle.match_box.specs.declared.node.Head.{Head}
use Rattle.match_box.specs.Rows.{Row, row, AllOf, same_queue, takes, meets, spot, head_of, on, off, first_of, without_first_of}
use Rattle.match_box.specs.Boxes.{queue_of_message, queue_of_receive, items, box_of, AreBoxed}
use Rattle.match_box.proofs.NodeFacts.{AllOf-append, AllOf-to, map_both}
use Rattle.match_box.proofs.Spots.{first_passes}

allows_meets : (a : Option ℕ) (n : ℕ) → allows a n ≡ meets a (Some n)
allows_meets None n = refl
allows_meets (Some m) n = grind (arith, nat_tests)

-- whether a receive may take a message is told by their queues
pub fits_takes : (x : Posted) (m : Msg) → fits x m ≡ takes (queue_of_receive x) (queue_of_message m)
fits_takes x m =
    let source = allows_meets x.source m.source in
    let tag = allows_meets x.tag m.tag in
    grind (arith, source, tag)

module _ {T : Type 0} where
  found_items : (P : T → Bool) (test : Queue → Bool) (of : T → Queue) (rows : List (Row T)) → AllOf (λ (r : Row T). r.queue ≡ of r.item) rows → ((x : T) → P x ≡ test (of x))
      → (find P (map (λ (r : Row T). r.item) rows) ≡ option_map (λ (r : Row T). r.item) (find (λ (r : Row T). test r.queue) rows))
      × (without_first P (map (λ (r : Row T). r.item) rows) ≡ map (λ (r : Row T). r.item) (without_first (λ (r : Row T). test r.queue) rows))
  found_items P test of [] named same = (refl, refl)
  found_items P test of (r ∷ rs) named same =
      let later = found_items P test of rs named.1 same in
      let here : P r.item ≡ test r.queue = same r.item ∙ ap test (sym named.0) in
      let one = later.0 in
      let two = later.1 in
      (grind (arith, here, one), grind (arith, here, two))

  -- the first that fits is the first of a queue
  pub met_some : (P : T → Bool) (test : Queue → Bool) (of : T → Queue) (rows : List (Row T)) (head : Head) → AllOf (λ (r : Row T). r.queue ≡ of r.item) rows → ((x : T) → P x ≡ test (of x))
      → Some head ≡ spot test rows
      → (find P (items rows) ≡ option_map (λ (r : Row T). r.item) (first_of head.queue rows)) × (without_first P (items rows) ≡ items (without_first_of head.queue rows))
  unfolding items
  met_some P test of rows head named same is =
      let found = found_items P test of rows named same in
      let first = first_passes test rows head (sym is) in
      (found.0 ∙ ap (option_map (λ (r : Row T). r.item)) first.0, found.1 ∙ ap (map (λ (r : Row T). r.item)) first.1)

  unseen : (found : Option (Row T)) → None ≡ option_map head_of found → found ≡ None
  unseen None none = refl
  unseen (Some r) none = absurd (cc (none))

  pub met_none : (P : T → Bool) (test : Queue → Bool) (of : T → Queue) (rows : List (Row T)) → AllOf (λ (r : Row T). r.queue ≡ of r.item) rows → ((x : T) → P x ≡ test (of x))
      → None ≡ spot test rows → find P (items rows) ≡ None
  unfolding items
  met_none P test of rows named same is =
      (found_items P test of rows named same).0 ∙ ap (option_map (λ (r : Row T). r.item)) (unseen (find (λ (r : Row T). test r.queue) rows) is)

  seen_some : (found : Option (Row T)) (head : Head) → Some head ≡ option_map head_of found → IsSome (option_map (λ (r : Row T). r.item) found)
  seen_some None head is = absurd (cc (is))
  seen_some (Some r) head is = refl

  -- the queue of a head is not empty
  pub head_some : (test : Queue → Bool) (rows : List (Row T)) (head : Head) → Some head ≡ spot test rows → IsSome (option_map (λ (r : Row T). r.item) (first_of head.queue rows))
  head_some test rows head is =
      subst (λ (found : Option (Row T)). IsSome (option_map (λ (r : Row T). r.item) found)) (first_passes test rows head (sym is)).0
      (seen_some (find (λ (r : Row T). test r.queue) rows) head is)

  pub AllOf-without : (P : Row T → Type 0) (queue : Queue) (rows : List (Row T)) → AllOf P rows → AllOf P (without_first_of queue rows)
  AllOf-without P queue [] all = all
  AllOf-without P queue (r ∷ rs) all = go (same_queue queue r.queue) (AllOf-without P queue rs all.1)
    where
      go : (b : Bool) → AllOf P (without_first_of queue rs) → AllOf P (if b then rs else r ∷ without_first_of queue rs)
      go true later = all.1
      go false later = (all.0, later)

AllOf-less : {A : Type 0} (P : A → Type 0) (test : A → Bool) (xs : List A) → AllOf P xs → AllOf P (without_first test xs)
AllOf-less P test [] all = all
AllOf-less P test (x ∷ xs) all = go (test x) (AllOf-less P test xs all.1)
  where
    go : (b : Bool) → AllOf P (without_first test xs) → AllOf P (if b then xs else x ∷ without_first test xs)
    go true later = all.1
    go false later = (all.0, later)

AllOf-none : {A : Type 0} (test : A → Bool) (xs : List A) → find test xs ≡ None → AllOf (λ x. test x ≡ false) xs
AllOf-none test [] none = _
AllOf-none test (x ∷ xs) none = go (test x) refl (AllOf-none test xs)
  where
    go : (b : Bool) → test x ≡ b → (find test xs ≡ None → AllOf (λ x. test x ≡ false) xs) → AllOf (λ x. test x ≡ false) (x ∷ xs)
    go true same later = absurd (cc (none, same))
    go false differs later = (differs, later (grind (arith, none, differs)))

AllOf-both : {A : Type 0} (P Q R : A → Type 0) (xs : List A) → ((x : A) → P x → Q x → R x) → AllOf P xs → AllOf Q xs → AllOf R xs
AllOf-both P Q R [] to p q = p
AllOf-both P Q R (x ∷ xs) to p q = (to x p.0 q.0, AllOf-both P Q R xs to p.1 q.1)

items-push : {T : Type 0} (rows : List (Row T)) (number : ℕ) (queue : Queue) (item : T) → items (rows ++ row number queue item ∷ []) ≡ items rows ++ item ∷ []
unfolding items
items-push rows number queue item = map_both (λ r. r.item) rows (row number queue item ∷ [])

-- a message that a receive takes
pub arrive_some : (receives : List (Row Posted)) (messages : List (Row Msg)) (m : Msg) (head : Head) (taken : Posted) → AreBoxed receives messages
    → Some head ≡ spot (λ q. takes q (queue_of_message m)) receives → Some taken ≡ option_map (λ (r : Row Posted). r.item) (first_of head.queue receives)
    → (arrive (box_of receives messages) m ≡ (box_of (without_first_of head.queue receives) messages, Some taken)) × AreBoxed (without_first_of head.queue receives) messages
unfolding arrive
arrive_some receives messages m head taken boxed is item =
    let met = met_some (λ x. fits x m) (λ q. takes q (queue_of_message m)) queue_of_receive receives head boxed.of_receives (λ x. fits_takes x m) is in
    let found : receive_for (items receives) m ≡ Some taken = met.0 ∙ sym item in (
      ap (arrived (box_of receives messages) m) found ∙ ap (λ (posted : List Posted). (record { kept = items messages; posted = posted }, Some taken)) met.1,
      record {
        of_receives = AllOf-without _ head.queue receives boxed.of_receives;
        of_messages = boxed.of_messages;
        apart = subst (λ (posted : List Posted). AllOf (λ (x : Posted). AllOf (λ (n : Msg). fits x n ≡ false) (items messages)) posted) met.1 (AllOf-less _ (λ x. fits x m) (items receives) boxed.apart);
      },
    )

-- a message that is kept
pub arrive_none : (receives : List (Row Posted)) (messages : List (Row Msg)) (m : Msg) (number : ℕ) → AreBoxed receives messages
    → None ≡ spot (λ q. takes q (queue_of_message m)) receives
    → (arrive (box_of receives messages) m ≡ (box_of receives (messages ++ row number (queue_of_message m) m ∷ []), None)) × AreBoxed receives (messages ++ row number (queue_of_message m) m ∷ [])
unfolding arrive
arrive_none receives messages m number boxed is =
    let none = met_none (λ x. fits x m) (λ q. takes q (queue_of_message m)) queue_of_receive receives boxed.of_receives (λ x. fits_takes x m) is in
    let kept = items-push messages number (queue_of_message m) m in (
      ap (arrived (box_of receives messages) m) none ∙ ap (λ (kept : List Msg). (record { kept = kept; posted = items receives }, None)) (sym kept),
      record {
        of_receives = boxed.of_receives;
        of_messages = AllOf-append _ messages (row number (queue_of_message m) m ∷ []) boxed.of_messages (refl, _);
        apart = subst (λ (kept : List Msg). AllOf (λ (x : Posted). AllOf (λ (n : Msg). fits x n ≡ false) kept) (items receives)) (sym kept)
            (AllOf-both _ (λ x. fits x m ≡ false) _ (items receives) (λ x old new. AllOf-append _ (items messages) (m ∷ []) old (new, _)) boxed.apart (AllOf-none (λ x. fits x m) (items receives) none));
      },
    )

-- a receive that takes a message
pub post_some : (receives : List (Row Posted)) (messages : List (Row Msg)) (x : Posted) (head : Head) → AreBoxed receives messages
    → Some head ≡ spot (λ q. takes (queue_of_receive x) q) messages
    → (post (box_of receives messages) x ≡ (box_of receives (without_first_of head.queue messages), option_map (λ (r : Row Msg). r.item) (first_of head.queue messages)))
    × AreBoxed receives (without_first_of head.queue messages)
unfolding post
post_some receives messages x head boxed is = go (option_map (λ (r : Row Msg). r.item) (first_of head.queue messages)) refl (head_some (λ q. takes (queue_of_receive x) q) messages head is)
  where
    met : (find (λ m. fits x m) (items messages) ≡ option_map (λ (r : Row Msg). r.item) (first_of head.queue messages)) × (without_first (λ m. fits x m) (items messages) ≡ items (without_first_of head.queue messages))
    met = met_some (λ m. fits x m) (λ q. takes (queue_of_receive x) q) queue_of_message messages head boxed.of_messages (λ m. fits_takes x m) is

    kept : AreBoxed receives (without_first_of head.queue messages)
    kept = record {
      of_receives = boxed.of_receives;
      of_messages = AllOf-without _ head.queue messages boxed.of_messages;
      apart = subst (λ (kept : List Msg). AllOf (λ (y : Posted). AllOf (λ (n : Msg). fits y n ≡ false) kept) (items receives)) met.1
          (AllOf-to _ _ (items receives) (λ y old. AllOf-less _ (λ m. fits x m) (items messages) old) boxed.apart);
    }

    go : (taken : Option Msg) → option_map (λ (r : Row Msg). r.item) (first_of head.queue messages) ≡ taken → IsSome (option_map (λ (r : Row Msg). r.item) (first_of head.queue messages))
        → (post (box_of receives messages) x ≡ (box_of receives (without_first_of head.queue messages), option_map (λ (r : Row Msg). r.item) (first_of head.queue messages)))
        × AreBoxed receives (without_first_of head.queue messages)
    go None none some = absurd (cc (none, some))
    go (Some m) is' some = (
      ap (posted_to (box_of receives messages) x) (met.0 ∙ is') ∙ ap (λ (kept : List Msg). (record { kept = kept; posted = items receives }, Some m)) met.1
          ∙ ap (λ (taken : Option Msg). (box_of receives (without_first_of head.queue messages), taken)) (sym is'),
      kept,
    )

-- a receive that is kept
pub post_none : (receives : List (Row Posted)) (messages : List (Row Msg)) (x : Posted) (number : ℕ) → AreBoxed receives messages
    → None ≡ spot (λ q. takes (queue_of_receive x) q) messages
    → (post (box_of receives messages) x ≡ (box_of (receives ++ row number (queue_of_receive x) x ∷ []) messages, None)) × AreBoxed (receives ++ row number (queue_of_receive x) x ∷ []) messages
unfolding post
post_none receives messages x number boxed is =
    let none = met_none (λ m. fits x m) (λ q. takes (queue_of_receive x) q) queue_of_message messages boxed.of_messages (λ m. fits_takes x m) is in
    let posted = items-push receives number (queue_of_receive x) x in (
      ap (posted_to (box_of receives messages) x) none ∙ ap (λ (posted : List Posted). (record { kept = items messages; posted = posted }, None)) (sym posted),
      record {
        of_receives = AllOf-append _ receives (row number (queue_of_receive x) x ∷ []) boxed.of_receives (refl, _);
        of_messages = boxed.of_messages;
        apart = subst (λ (posted : List Posted). AllOf (λ (y : Posted). AllOf (λ (n : Msg). fits y n ≡ false) (items messages)) posted) (sym posted)
            (AllOf-append _ (items receives) (x ∷ []) boxed.apart (AllOf-none (λ m. fits x m) (items messages) none, _));
      },
    )

module _ {T : Type 0} where
  -- what is left of the items
  filter_items : (P : T → Bool) (test : Queue → Bool) (of : T → Queue) (rows : List (Row T)) → AllOf (λ (r : Row T). r.queue ≡ of r.item) rows → ((x : T) → P x ≡ test (of x))
      → filter P (map (λ (r : Row T). r.item) rows) ≡ map (λ (r : Row T). r.item) (filter (λ (r : Row T). test r.queue) rows)
  filter_items P test of [] named same = refl
  filter_items P test of (r ∷ rs) named same =
      let later = filter_items P test of rs named.1 same in
      let here : P r.item ≡ test r.queue = same r.item ∙ ap test (sym named.0) in
      grind (arith, later, here)

  pub kept_items : (P : T → Bool) (test : Queue → Bool) (of : T → Queue) (rows : List (Row T)) → AllOf (λ (r : Row T). r.queue ≡ of r.item) rows → ((x : T) → P x ≡ test (of x))
      → filter P (items rows) ≡ items (filter (λ (r : Row T). test r.queue) rows)
  unfolding items
  kept_items P test of rows named same = filter_items P test of rows named same

  len_items : (rows : List (Row T)) → length (map (λ (r : Row T). r.item) rows) ≡ length rows
  len_items [] = refl
  len_items (r ∷ rs) = ap suc (len_items rs)

  pub items-len : (rows : List (Row T)) → length (items rows) ≡ length rows
  unfolding items
  items-len rows = len_items rows

AllOf-filter : {A : Type 0} (P : A → Type 0) (test : A → Bool) (xs : List A) → AllOf P xs → AllOf P (filter test xs)
AllOf-filter P test [] all = all
AllOf-filter P test (x ∷ xs) all = go (test x) (AllOf-filter P test xs all.1)
  where
    go : (b : Bool) → AllOf P (filter test xs) → AllOf P (if b then x ∷ filter test xs else filter test xs)
    go true later = (all.0, later)
    go false later = later

-- how many receives are posted on a context
pub posted_many : (receives : List (Row Posted)) (messages : List (Row Msg)) (c : ℕ) → AreBoxed receives messages → length (on c receives) ≡ posted_on (box_of receives messages) c
posted_many receives messages c boxed =
    sym (items-len (on c receives)) ∙ ap length (sym (kept_items (λ x. x.ctx == c) (λ q. q.ctx == c) queue_of_receive receives boxed.of_receives (λ x. refl)))

-- some receive is posted exactly where their number is not 0
pub posted_any : (posted : List Posted) (c : ℕ) → list_any (λ x. x.ctx == c) posted ≡ nat_lt 0 (length (filter (λ x. x.ctx == c) posted))
posted_any [] c = refl
posted_any (x ∷ xs) c = go (x.ctx == c) (posted_any xs c)
  where
    go : (b : Bool) → list_any (λ y. y.ctx == c) xs ≡ nat_lt 0 (length (filter (λ y. y.ctx == c) xs))
        → (b || list_any (λ y. y.ctx == c) xs) ≡ nat_lt 0 (length (if b then x ∷ filter (λ y. y.ctx == c) xs else filter (λ y. y.ctx == c) xs))
    go true later = grind (arith, nat_tests)
    go false later = later

-- the messages of a context are dropped
pub dropped : (receives : List (Row Posted)) (messages : List (Row Msg)) (c : ℕ) → AreBoxed receives messages
    → (drop_ctx (box_of receives messages) c ≡ box_of receives (off c messages)) × AreBoxed receives (off c messages) × (length (on c messages) ≡ kept_on (box_of receives messages) c)
dropped receives messages c boxed =
    let left = kept_items (λ m. not (m.ctx == c)) (λ q. not (q.ctx == c)) queue_of_message messages boxed.of_messages (λ m. refl) in
    let gone = kept_items (λ m. m.ctx == c) (λ q. q.ctx == c) queue_of_message messages boxed.of_messages (λ m. refl) in (
      ap (λ (kept : List Msg). record { kept = kept; posted = items receives }) left,
      record {
        of_receives = boxed.of_receives;
        of_messages = AllOf-filter _ (λ (r : Row Msg). not (r.queue.ctx == c)) messages boxed.of_messages;
        apart = subst (λ (kept : List Msg). AllOf (λ (x : Posted). AllOf (λ (n : Msg). fits x n ≡ false) kept) (items receives)) left
            (AllOf-to _ _ (items receives) (λ x old. AllOf-filter _ (λ (m : Msg). not (m.ctx == c)) (items messages) old) boxed.apart);
      },
      sym (items-len (on c messages)) ∙ ap length (sym gone),
    )

parts : {T : Type 0} (c : ℕ) (rows : List (Row T)) → length (off c rows) + length (on c rows) ≡ length rows
parts c [] = refl
parts c (r ∷ rs) = let later = parts c rs in grind (arith, later)

-- what is left and what is dropped is what was kept
pub kept_parts : (rows : List (Row Msg)) (c : ℕ) → length (items (off c rows)) + length (on c rows) ≡ length (items rows)
kept_parts rows c = ap (λ n. n + length (on c rows)) (items-len (off c rows)) ∙ parts c rows ∙ sym (items-len rows)
