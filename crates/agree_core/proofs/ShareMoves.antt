-- Moves on shares, step by step.
use Rattle.std.proofs.Common.{◌≡◌, ◌<◌, ◌≤◌, ◌+◌, ℕ, ℤ, true, false, List, [], ◌∷◌, ◌++◌, map, take, length, get_or, refl, sym, subst, ◌∙◌, ap, arith, Option, Some, None}
use Rattle.std.specs.Prelude.{slice_get}
use Rattle.std.proofs.lemmas.List.{append-nil, append_assoc, length-take, map-append, take_more}
use Rattle.mpi_base.specs.declared.keys.Key.{Key}
use Rattle.mpi_base.specs.declared.shares.Shared1.{Shared1}
use Rattle.agree_law.specs.declared.rows.Stage.TheVariants.{Sharing}
use Rattle.agree_law.specs.Tree.{is_first, member_at, place_in}
use Rattle.agree_law.specs.Part.{close_creation, drop_shares, open_creation}
use Rattle.agree_law.specs.Packets.{Packet as Packet_seen, Sent as Sent_seen, Share as share, Shares as shares}
use Rattle.agree_law.specs.Offers.{begin}
use Rattle.agree_law.specs.Classes.{split_key}
use Rattle.agree_law.specs.Shares.{begin_share, colour_at, divide, settle_share, share_list, take_share, take_shares, takes_share, takes_shares, to_others}
use Rattle.and_reduce.specs.declared.packets.Sent.{Sent}
use Rattle.and_reduce.specs.Rows.{sent_of}
use Rattle.agree_core.specs.Held.{Becomes, Held, Makes}
use Rattle.agree_core.specs.Mates.{class_key}

-- nothing is sent
unsent : {w : ℕ} (top : ℕ) (xs : List (Sent w)) → map (sent_of top) xs ≡ map (sent_of top) xs ++ []
unsent top xs = sym (append-nil (map (sent_of top) xs))

-- A split is called

pub made-share-first : {w : ℕ} (h old new : Held) (key : Key) (s : Shared1) (before : List (Sent w)) → h ≡ old → new.rank ≡ h.rank → new.top ≡ h.top
    → is_first h.rank key.members ≡ true
    → new.part ≡ record h.part { opened = open_creation h.part.opened key (Sharing s); shares = h.part.shares ++ record { key = key; place = 0; share = s } ∷ [] }
    → Makes (begin_share old.rank old.part key s) old new before before
unfolding begin_share
made-share-first h old new key s before is rank top first part =
    subst (λ (o : Held). Makes (begin_share o.rank o.part key s) o new before before) is
    (rw first (record { becomes = record { part = part; rank = rank; top = top }; sent = unsent h.top before }))

pub made-share-other : {w : ℕ} (h old new : Held) (key : Key) (s : Shared1) (before : List (Sent w)) (x : Sent w) → h ≡ old → new.rank ≡ h.rank → new.top ≡ h.top
    → is_first h.rank key.members ≡ false → new.part ≡ record h.part { opened = open_creation h.part.opened key (Sharing s) }
    → sent_of h.top x ≡ record { to = member_at key.members 0; packet = share key s }
    → Makes (begin_share old.rank old.part key s) old new before (before ++ x ∷ [])
unfolding begin_share
made-share-other h old new key s before x is rank top other part packet =
    subst (λ (o : Held). Makes (begin_share o.rank o.part key s) o new before (before ++ x ∷ [])) is
    (rw other
    (record {
      becomes = record { part = part; rank = rank; top = top };
      sent = map-append (sent_of h.top) before (x ∷ []) ∙ ap (λ (y : Sent_seen). map (sent_of h.top) before ++ y ∷ []) packet;
    }))

pub became-share : (h old new : Held) (from place : ℕ) (key : Key) (s : Shared1) → h ≡ old → new.rank ≡ h.rank → new.top ≡ h.top → takes_share old.rank old.part from key ≡ true
    → place ≡ place_in key.members from → new.part ≡ record h.part { shares = h.part.shares ++ record { key = key; place = place; share = s } ∷ [] }
    → Becomes old new (take_share old.rank old.part from key s).part
unfolding take_share
became-share h old new from place key s is rank top taken at part =
    rw taken
    (subst (λ (o : Held). Becomes o new (record o.part { shares = o.part.shares ++ record { key = key; place = place_in key.members from; share = s } ∷ [] })) is
    (rw (← at) (record { part = part; rank = rank; top = top })))

-- The list of shares is taken

pub made-divide-none : {w : ℕ} (h old new : Held) (key : Key) (list : List Shared1) (before : List (Sent w)) → h ≡ old → new.rank ≡ h.rank → new.top ≡ h.top
    → new.part ≡ record h.part { opened = close_creation h.part.opened key } → Makes (divide old.rank old.top old.part key None list) old new before before
unfolding divide
made-divide-none h old new key list before is rank top part =
    subst (λ (o : Held). Makes (divide o.rank o.top o.part key None list) o new before before) is
    (record { becomes = record { part = part; rank = rank; top = top }; sent = unsent h.top before })

pub made-divide-some : {w : ℕ} (h old mid new : Held) (key : Key) (c : ℤ) (list : List Shared1) (class : Key) (before after : List (Sent w)) → h ≡ old → mid.rank ≡ h.rank
    → mid.top ≡ h.top → mid.part ≡ record h.part { opened = close_creation h.part.opened key } → class ≡ split_key key (Some c) list
    → Makes (begin mid.rank mid.top mid.part class) mid new before after → Makes (divide old.rank old.top old.part key (Some c) list) old new before after
unfolding divide
made-divide-some h old mid new key c list class before after is rank top part at made =
    subst (λ (o : Held). Makes (divide o.rank o.top o.part key (Some c) list) o new before after) is
    (record {
      becomes =
          record {
            part = made.becomes.part ∙ rw (rank, top, part, at) refl;
            rank = made.becomes.rank ∙ rank;
            top = made.becomes.top ∙ top;
          };
      sent = rw (rank, top, part, at) at made.sent;
    })

pub made-take_shares : {w : ℕ} (old new : Held) (from : ℕ) (key : Key) (c : Option ℤ) (list : List Shared1) (before after : List (Sent w)) → takes_shares old.rank old.part from key list ≡ true
    → c ≡ colour_at (slice_get list (place_in key.members old.rank)) → Makes (divide old.rank old.top old.part key c list) old new before after
    → Makes (take_shares old.rank old.top old.part from key list) old new before after
unfolding take_shares
made-take_shares old new from key c list before after taken is made = rw (taken, ← is) made

pub made-not_taken : {w : ℕ} (old : Held) (from : ℕ) (key : Key) (list : List Shared1) (before : List (Sent w)) → takes_shares old.rank old.part from key list ≡ false
    → Makes (take_shares old.rank old.top old.part from key list) old old before before
unfolding take_shares
made-not_taken old from key list before other = rw other (record { becomes = record { part = refl; rank = refl; top = refl }; sent = unsent old.top before })

-- An exchange is settled

pub made-settle_share : {w : ℕ} (h old mid new : Held) (key : Key) (list : List Shared1) (before middle after : List (Sent w)) → h ≡ old → mid.rank ≡ h.rank → mid.top ≡ h.top
    → mid.part ≡ record h.part { shares = drop_shares h.part.shares key } → list ≡ share_list h.part.shares key
    → map (sent_of mid.top) middle ≡ map (sent_of mid.top) before ++ to_others key.members (shares key list)
    → Makes (take_shares mid.rank mid.top mid.part mid.rank key list) mid new middle after → Makes (settle_share old.rank old.top old.part key) old new before after
unfolding settle_share
made-settle_share h old mid new key list before middle after is rank top part all sent made =
    subst (λ (o : Held). Makes (settle_share o.rank o.top o.part key) o new before after) is
    (record {
      becomes =
          record {
            part = made.becomes.part ∙ rw (rank, top, part, all) refl;
            rank = made.becomes.rank ∙ rank;
            top = made.becomes.top ∙ top;
          };
      sent =
          (let taken = rw (rank, top, part, all) at made.sent in
          let passed = rw (top, all) at sent in
          taken
          ∙ (ap (λ (xs : List Sent_seen). xs ++ (take_shares h.rank h.top (record h.part { shares = drop_shares h.part.shares key }) h.rank key (share_list h.part.shares key)).sent) passed
          ∙ append_assoc (map (sent_of h.top) before) (to_others key.members (shares key (share_list h.part.shares key)))
          (take_shares h.rank h.top (record h.part { shares = drop_shares h.part.shares key }) h.rank key (share_list h.part.shares key)).sent));
    })

-- The list goes to the others

others-append : (xs : List ℕ) (x : ℕ) (p : Packet_seen) → 1 ≤ length xs → to_others (xs ++ x ∷ []) p ≡ to_others xs p ++ record { to = x; packet = p } ∷ []
others-append [] x p h = absurd (omega (arith, h))
others-append (m ∷ ms) x p h = map-append (λ (q : ℕ). record { to = q; packet = p }) ms (x ∷ [])

others-more : (ms : List ℕ) (q : ℕ) (p : Packet_seen) → 1 ≤ q → q < length ms → to_others (take (q + 1) ms) p ≡ to_others (take q ms) p ++ record { to = member_at ms q; packet = p } ∷ []
others-more ms q p above inside =
    let some = length-take q ms in
    ap (λ (xs : List ℕ). to_others xs p) (take_more ms q 0 inside) ∙ others-append (take q ms) (get_or ms q 0) p (omega (arith, some, above, inside))

pub others-none : (ms : List ℕ) (p : Packet_seen) → to_others (take 1 ms) p ≡ []
others-none [] p = refl
others-none (m ∷ ms) p = refl

-- one more member
pub sent-other : {w : ℕ} (top : ℕ) (ms : List ℕ) (q : ℕ) (p : Packet_seen) (start xs : List (Sent w)) (x : Sent w) → 1 ≤ q → q < length ms
    → map (sent_of top) xs ≡ map (sent_of top) start ++ to_others (take q ms) p → sent_of top x ≡ record { to = member_at ms q; packet = p }
    → map (sent_of top) (xs ++ x ∷ []) ≡ map (sent_of top) start ++ to_others (take (q + 1) ms) p
sent-other top ms q p start xs x above inside so_far is =
    map-append (sent_of top) xs (x ∷ [])
    ∙ (ap (λ (ys : List Sent_seen). ys ++ sent_of top x ∷ []) so_far
    ∙ (append_assoc (map (sent_of top) start) (to_others (take q ms) p) (sent_of top x ∷ [])
    ∙ ap (λ (ys : List Sent_seen). map (sent_of top) start ++ ys)
    (ap (λ (s : Sent_seen). to_others (take q ms) p ++ s ∷ []) is ∙ sym (others-more ms q p above inside))))

-- the class by which an exchange that is settled goes on
pub settled-class : (h old : Held) (r : ℕ) (key : Key) (list : List Shared1) (result : Option Key) → h ≡ old → r ≡ h.rank → list ≡ share_list h.part.shares key → result ≡ class_key r key list
    → result ≡ class_key old.rank key (share_list old.part.shares key)
settled-class h old r key list result is rank all is_class =
    is_class
    ∙ (ap (λ (q : ℕ). class_key q key list) rank
    ∙ (ap (class_key h.rank key) all ∙ ap (λ (o : Held). class_key o.rank key (share_list o.part.shares key)) is))
