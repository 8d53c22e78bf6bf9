-- A message is sent, a receive is posted.
use Rattle.std.proofs.Common.{◌≡◌, ◌<◌, ◌+◌, ◌==◌, ◌&&◌, ℕ, Bool, true, false, List, [], ◌∷◌, ◌++◌, map, filter, get_or, Option, Some, None, refl, sym, ap, ◌∙◌, arith, append_assoc, if◌then◌else◌}
use Rattle.std.proofs.lemmas.Bool.Decides.{nat_tests}
use Rattle.std.proofs.lemmas.List.{append-nil, map-append}
use Rattle.mpi_base.specs.MemberLists.{has_rank}
use Rattle.mpi_base.specs.declared.messages.Msg.{Msg}
use Rattle.mpi_law.specs.Registry.State.{Registry, RankPart, Message, Receive, blank_part, comm_at, part_of}
use Rattle.mpi_law.specs.Registry.Messages.{is_unmatched, is_receive, receive_of}
use Rattle.match_law.specs.declared.rows.Posted.{Posted}
use Rattle.mpi_protocol.specs.declared.rows.ReceiveRow.{ReceiveRow}
use Rattle.mpi_protocol.specs.Packets as packet
use Rattle.mpi_protocol.specs.Packets.{Packet}
use Rattle.mpi_protocol.specs.Rank.{receive_of as row_of, with_receive}
use Rattle.agree_law.proofs.Lists.{AllOf-append}
use Rattle.message_law.proofs.Lists.{filter-append, find-append_none, find_none, find-snoc_other}
use Rattle.message_law.proofs.Numbered.{rises, rises-append, rises-append_other, none_numbered}
use Rattle.message_law.proofs.Frames.{put, put_pair}
use Rattle.message_law.proofs.Topics.{as_msg, as_posted, is_sent_by, is_between, is_of, message_in, messages_on, is_posted_at, is_waiting_at, number_of_message, number_of_receive, open_between, waiting_at, OnLive, OpenFits, WaitingFits, IsKnown, Messages, Receives, RowFits}

pub messages_on-append : (ps qs : List Packet) → messages_on (ps ++ qs) ≡ messages_on ps ++ messages_on qs
messages_on-append [] qs = refl
messages_on-append (p ∷ ps) qs = let ih = messages_on-append ps qs in ap (λ (ms : List Msg). message_in p ++ ms) ih ∙ sym (append_assoc (message_in p) (messages_on ps) (messages_on qs))

-- a message more
abbrev pub with_message : Registry → Message → List RankPart → Registry
with_message g m parts = record g { messages = g.messages ++ m ∷ []; ranks = parts }

-- one count of a rank is one more
abbrev pub IsOneMore : (RankPart → ℕ) → Registry → List RankPart → ℕ → Type 0
IsOneMore count g parts r = (a : ℕ) → count (get_or parts a blank_part) ≡ (if a == r then count (part_of g r) + 1 else count (part_of g a))

module _ (n : ℕ) (g : Registry) (kept : ℕ → List Msg) (sends : ℕ → ℕ) (line : ℕ → ℕ → List Packet) (h : Messages n g kept sends line)
    (m : Message) (parts : List RankPart) (more : IsOneMore (λ p. p.sends) g parts m.from) (unmatched : is_unmatched m ≡ true) (number : m.number ≡ (part_of g m.from).sends + 1) (live : OnLive g m.comm m.to) (lt : m.from < n) (member : has_rank (comm_at g m.comm).members m.from ≡ true) where
  abbrev sent_line : ℕ → ℕ → List Packet
  sent_line = put_pair m.from m.to (line m.from m.to ++ packet.Message (as_msg g.comms m) ∷ []) line

  -- the message is last on its link
  pub send_is_last : Messages n (with_message g m parts) kept (put m.from (sends m.from + 1) sends) sent_line
  send_is_last = record {
    lists = λ a b la lb. list a b la lb (a == m.from) refl (b == m.to) refl;
    numbered = λ a la. rise a la (a == m.from) refl;
    counted = λ a la. count a la (a == m.from) refl;
    live = AllOf-append (OpenFits n g) g.messages (m ∷ []) h.live ((λ o. (live, lt, member)), tt);
    sources = h.sources;
  }
    where
      split : (a b : ℕ) → open_between (with_message g m parts) a b ≡ open_between g a b ++ map (as_msg g.comms) (filter (is_between a b) (m ∷ []))
      split a b = ap (map (as_msg g.comms)) (filter-append (is_between a b) g.messages (m ∷ [])) ∙ map-append (as_msg g.comms) (filter (is_between a b) g.messages) (filter (is_between a b) (m ∷ []))

      off : (a b : ℕ) → a < n → b < n → is_between a b m ≡ false → open_between (with_message g m parts) a b ≡ filter (is_of a) (kept b) ++ messages_on (line a b)
      off a b la lb e =
          let none : map (as_msg g.comms) (filter (is_between a b) (m ∷ [])) ≡ [] = rw e refl in
          split a b ∙ rw none (append-nil (open_between g a b) ∙ h.lists a b la lb)

      list : (a b : ℕ) → a < n → b < n → (s : Bool) → (a == m.from) ≡ s → (t : Bool) → (b == m.to) ≡ t
          → open_between (with_message g m parts) a b ≡ filter (is_of a) (kept b) ++ messages_on (if s && t then line m.from m.to ++ packet.Message (as_msg g.comms m) ∷ [] else line a b)
      list a b la lb true s true t =
          let is_a : a ≡ m.from = grind (arith, nat_tests, s) in
          let is_b : b ≡ m.to = grind (arith, nat_tests, t) in
          let yes : is_between a b m ≡ true = grind (arith, nat_tests, is_a, is_b, unmatched) in
          let one : map (as_msg g.comms) (filter (is_between a b) (m ∷ [])) ≡ as_msg g.comms m ∷ [] = rw yes refl in
          let on : messages_on (line m.from m.to) ≡ messages_on (line a b) = rw (is_a, is_b) refl in
          split a b ∙ rw (one, h.lists a b la lb, messages_on-append (line m.from m.to) (packet.Message (as_msg g.comms m) ∷ []), on) (append_assoc (filter (is_of a) (kept b)) (messages_on (line a b)) (as_msg g.comms m ∷ []))
      list a b la lb true s false t = off a b la lb (grind (arith, nat_tests, t))
      list a b la lb false s t k = off a b la lb (grind (arith, nat_tests, s))

      rise : (a : ℕ) → a < n → (s : Bool) → (a == m.from) ≡ s → rises (is_sent_by a) number_of_message 0 (get_or parts a blank_part).sends (g.messages ++ m ∷ []) ≡ true
      rise a la true s =
          let is : a ≡ m.from = grind (arith, nat_tests, s) in
          let c = more a in
          let top : (get_or parts a blank_part).sends ≡ m.number = grind (arith, c, s, number) in
          rw (top, is) (rises-append (is_sent_by m.from) number_of_message g.messages m 0 (part_of g m.from).sends (h.numbered m.from lt) (grind (arith, nat_tests)) (omega (arith, number)))
      rise a la false s =
          let c = more a in
          let top : (get_or parts a blank_part).sends ≡ (part_of g a).sends = grind (arith, c, s) in
          rw top (rises-append_other (is_sent_by a) number_of_message g.messages m 0 (part_of g a).sends (h.numbered a la) (grind (arith, nat_tests, s)))

      count : (a : ℕ) → a < n → (s : Bool) → (a == m.from) ≡ s → (if s then sends m.from + 1 else sends a) ≡ (get_or parts a blank_part).sends
      count a la true s = let c = more a in let o = h.counted m.from lt in grind (arith, c, o, s)
      count a la false s = let c = more a in let o = h.counted a la in grind (arith, c, o, s)

-- a receive more
abbrev pub with_posted : Registry → Receive → List RankPart → Registry
with_posted g x parts = record g { receives = g.receives ++ x ∷ []; ranks = parts }

module _ (n : ℕ) (g : Registry) (posted : ℕ → List Posted) (rows : ℕ → List ReceiveRow) (posts : ℕ → ℕ) (h : Receives n g posted rows posts)
    (x : Receive) (parts : List RankPart) (more : IsOneMore (λ p. p.receives) g parts x.rank) (waits : x.taken ≡ None) (number : x.number ≡ (part_of g x.rank).receives + 1) (live : OnLive g x.comm x.rank) (lt : x.rank < n) where
  -- the receive is the last of those posted
  pub post_is_last : Receives n (with_posted g x parts) (put x.rank (posted x.rank ++ as_posted g.comms x ∷ []) posted) (put x.rank (with_receive (rows x.rank) x.number x.room) rows) (put x.rank (posts x.rank + 1) posts)
  post_is_last = record {
    lists = λ s ls. split s ∙ list s ls (s == x.rank) refl;
    numbered = λ a la. rise a la (a == x.rank) refl;
    counted = λ a la. count a la (a == x.rank) refl;
    live = AllOf-append (WaitingFits g) g.receives (x ∷ []) h.live ((λ o. live), tt);
    taken = λ s k ls. row s k ls (s == x.rank) refl;
    known = AllOf-append (λ z. IsKnown g z.taken) g.receives (x ∷ []) h.known (rw waits tt, tt);
  }
    where
      split : (s : ℕ) → waiting_at (with_posted g x parts) s ≡ waiting_at g s ++ map (as_posted g.comms) (filter (is_waiting_at s) (x ∷ []))
      split s = ap (map (as_posted g.comms)) (filter-append (is_waiting_at s) g.receives (x ∷ [])) ∙ map-append (as_posted g.comms) (filter (is_waiting_at s) g.receives) (filter (is_waiting_at s) (x ∷ []))

      list : (s : ℕ) → s < n → (t : Bool) → (s == x.rank) ≡ t → waiting_at g s ++ map (as_posted g.comms) (filter (is_waiting_at s) (x ∷ [])) ≡ (if t then posted x.rank ++ as_posted g.comms x ∷ [] else posted s)
      list s ls true t =
          let is : s ≡ x.rank = grind (arith, nat_tests, t) in
          let yes : is_waiting_at s x ≡ true = rw (is, waits) (grind (arith, nat_tests)) in
          let one : map (as_posted g.comms) (filter (is_waiting_at s) (x ∷ [])) ≡ as_posted g.comms x ∷ [] = rw yes refl in
          rw (one, is, h.lists x.rank lt) refl
      list s ls false t =
          let no : is_waiting_at s x ≡ false = grind (arith, nat_tests, t) in
          let none : map (as_posted g.comms) (filter (is_waiting_at s) (x ∷ [])) ≡ [] = rw no refl in
          rw none (append-nil (waiting_at g s) ∙ h.lists s ls)

      rise : (a : ℕ) → a < n → (s : Bool) → (a == x.rank) ≡ s → rises (is_posted_at a) number_of_receive 0 (get_or parts a blank_part).receives (g.receives ++ x ∷ []) ≡ true
      rise a la true s =
          let is : a ≡ x.rank = grind (arith, nat_tests, s) in
          let c = more a in
          let top : (get_or parts a blank_part).receives ≡ x.number = grind (arith, c, s, number) in
          rw (top, is) (rises-append (is_posted_at x.rank) number_of_receive g.receives x 0 (part_of g x.rank).receives (h.numbered x.rank lt) (grind (arith, nat_tests)) (omega (arith, number)))
      rise a la false s =
          let c = more a in
          let top : (get_or parts a blank_part).receives ≡ (part_of g a).receives = grind (arith, c, s) in
          rw top (rises-append_other (is_posted_at a) number_of_receive g.receives x 0 (part_of g a).receives (h.numbered a la) (grind (arith, nat_tests, s)))

      count : (a : ℕ) → a < n → (s : Bool) → (a == x.rank) ≡ s → (if s then posts x.rank + 1 else posts a) ≡ (get_or parts a blank_part).receives
      count a la true s = let c = more a in let o = h.counted x.rank lt in grind (arith, c, o, s)
      count a la false s = let c = more a in let o = h.counted a la in grind (arith, c, o, s)

      no_row : (w : Option ReceiveRow) → RowFits g w None → w ≡ None
      no_row None f = refl
      no_row (Some w) f = absurd f

      row : (s k : ℕ) → s < n → (t : Bool) → (s == x.rank) ≡ t
          → RowFits g (row_of (if t then with_receive (rows x.rank) x.number x.room else rows s) k) (receive_of (with_posted g x parts) s k)
      row s k ls false t = rw (find-snoc_other (is_receive s k) g.receives x (grind (arith, nat_tests, t))) (h.taken s k ls)
      row s k ls true t = let is : s ≡ x.rank = grind (arith, nat_tests, t) in rw is (by (x.number == k) refl)
        where
          by : (b : Bool) → (x.number == k) ≡ b → RowFits g (row_of (with_receive (rows x.rank) x.number x.room) k) (receive_of (with_posted g x parts) x.rank k)
          by false b =
              let no : is_receive x.rank k x ≡ false = grind (arith, nat_tests, b) in
              rw (find-snoc_other (is_receive x.rank k) g.receives x no, find-snoc_other (λ w. w.number == k) (rows x.rank) (record { number = x.number; room = x.room; taken = None }) b) (h.taken x.rank k lt)
          by true b =
              let is : k ≡ x.number = grind (arith, nat_tests, b) in
              let missing : receive_of g x.rank x.number ≡ None = none_numbered (is_posted_at x.rank) number_of_receive g.receives 0 (part_of g x.rank).receives x.number (h.numbered x.rank lt) (omega (arith, number)) in
              let none : row_of (rows x.rank) x.number ≡ None = no_row (row_of (rows x.rank) x.number) (let f = h.taken x.rank x.number lt in rw missing at f) in
              let yes : (x.number == x.number) ≡ true = grind (arith, nat_tests) in
              let ours : is_receive x.rank x.number x ≡ true = grind (arith, nat_tests) in
              let last : receive_of (with_posted g x parts) x.rank x.number ≡ Some x = find-append_none (is_receive x.rank x.number) g.receives (x ∷ []) (find_none (is_receive x.rank x.number) g.receives missing) ∙ rw ours refl in
              let fresh : row_of (with_receive (rows x.rank) x.number x.room) x.number ≡ Some (record { number = x.number; room = x.room; taken = None }) = find-append_none (λ w. w.number == x.number) (rows x.rank) (record { number = x.number; room = x.room; taken = None } ∷ []) (find_none (λ w. w.number == x.number) (rows x.rank) none) ∙ rw yes refl in
              rw (is, last, fresh) (refl, refl, rw waits refl)
