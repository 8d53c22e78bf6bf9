-- Acts of a rank from their parts.
use Rattle.std.proofs.Common.{◌≡◌, ◌≤◌, ◌+◌, ◌++◌, ℕ, List, [], map, length, refl, subst, ◌∙◌, ap, arith, Option}
use Rattle.std.proofs.lemmas.List.{append-nil, length-map}
use Rattle.mpi_base.specs.declared.entries.Act.{Act}
use Rattle.mpi_base.specs.declared.entries.Entry.{Entry}
use Rattle.agree_law.specs.Packets as agree_seen
use Rattle.agree_core.specs.Held.{Held as AgreeHeld, Makes as AgreeMakes}
use Rattle.and_reduce.specs.declared.packets.Sent.{Sent as AgreeSent}
use Rattle.and_reduce.specs.Rows as agree
use Rattle.mpi_protocol.specs.Packets.{Packet, Agreeing, Sent as Sent_seen, agreeing}
use Rattle.mpi_protocol.specs.Rank.{Rank}
use Rattle.mpi_protocol.specs.Moves.{Move}
use Rattle.mpi_protocol.specs.Step.{entry_of, step}
use Rattle.mpi_protocol.specs.Stepping.{Steps}
use Rattle.rank_core.specs.declared.packets.Sent.{Sent}
use Rattle.rank_core.specs.Packets.{Box, sent_by, sent_of}
use Rattle.rank_core.specs.Held.{Held, IsReady, Makes, MOST_SENT}

-- A step, from what it moves

pub steps-of : (h old : Held) (act : Act) (packet : Option Packet) (m : Move) (new : Rank) (line : Entry) (sent : List Sent_seen) → h ≡ old → step h.state act packet ≡ m
    → new ≡ m.state → line ≡ entry_of h.state act packet m → sent ≡ m.sent → Steps old.state act packet new line sent
steps-of h old act packet m new line sent is moves state entry packets =
    subst (λ (o : Held). Steps o.state act packet new line sent) is (record { state = rw moves state; entry = rw moves entry; packets = rw moves packets })

pub makes-of : {w : ℕ} (h old new : Held) (act : Act) (packet : Option Packet) (m : Move) (line : Entry) (out : Box w) → h ≡ old → step h.state act packet ≡ m
    → new.state ≡ m.state → line ≡ entry_of h.state act packet m → sent_by h.state.setting.contexts out ≡ m.sent → length (sent_by h.state.setting.contexts out) ≤ MOST_SENT
    → new.state.rank ≡ h.state.rank → new.state.setting ≡ h.state.setting → new.boxed ≤ h.boxed + 1 → h.spare ≤ new.spare + 1 → Makes old act packet new line out
makes-of h old new act packet m line out is moves state entry packets few rank setting boxed spare =
    subst (λ (o : Held). Makes o act packet new line out) is
    (record {
      step = record { state = rw moves state; entry = rw moves entry; packets = rw moves packets };
      few = few;
      rank = rank;
      setting = setting;
      boxed = boxed;
      spare = spare;
    })

-- What is sent from an outbox that was empty

abbrev to_packet : agree_seen.Sent → Sent_seen
to_packet s = record { to = s.to; packet = Agreeing s.packet }

module _ {w : ℕ} (top : ℕ) (b was : Box w) (room : ℕ) (is : b ≡ was) (ready : IsReady was) where
  no_agreed : b.agreed ≡ []
  no_agreed = rw is ready.agreed

  no_others : b.others ≡ []
  no_others = rw is ready.others

  pub sent_by-nothing : sent_by top was ≡ []
  sent_by-nothing = rw (ready.agreed, ready.others) refl

  -- packets of the agreement
  module _ (after : List (AgreeSent w)) where
    pub sent_by-agreed : (sent : List agree_seen.Sent) → map (agree.sent_of top) after ≡ map (agree.sent_of top) b.agreed ++ sent
        → sent_by top (record { agreed = after; others = b.others; room = room }) ≡ agreeing sent
    sent_by-agreed sent e =
        let all : map (agree.sent_of top) after ≡ sent = e ∙ rw no_agreed refl in
        rw no_others (append-nil (agreeing (map (agree.sent_of top) after)) ∙ ap agreeing all)

    pub few-agreed : (n : ℕ) → length after ≤ length b.agreed + n → n ≤ MOST_SENT → length (sent_by top (record { agreed = after; others = b.others; room = room })) ≤ MOST_SENT
    few-agreed n le most =
        let none = ap (λ (xs : List (AgreeSent w)). length xs) no_agreed in
        let count = length-map after (agree.sent_of top) in
        let all = length-map (map (agree.sent_of top) after) to_packet in
        rw no_others (rw (append-nil (agreeing (map (agree.sent_of top) after))) (omega (arith, none, count, all, le, most)))

  -- messages or markers
  module _ (after : List (Sent w)) where
    pub sent_by-others : (sent : List Sent_seen) → map (sent_of top) after ≡ map (sent_of top) b.others ++ sent → sent_by top (record { agreed = b.agreed; others = after; room = room }) ≡ sent
    sent_by-others sent e = let all : map (sent_of top) after ≡ sent = e ∙ rw no_others refl in rw no_agreed all

    pub few-others : (n : ℕ) → length after ≤ length b.others + n → n ≤ MOST_SENT → length (sent_by top (record { agreed = b.agreed; others = after; room = room })) ≤ MOST_SENT
    few-others n le most =
        let none = ap (λ (xs : List (Sent w)). length xs) no_others in
        let count = length-map after (sent_of top) in
        rw no_agreed (omega (arith, none, count, le, most))

-- a move of the agreement from an empty outbox
pub sent_by-made : {w : ℕ} (h old : Held) (a2 : AgreeHeld) (b was : Box w) (after : List (AgreeSent w)) (room : ℕ) (a : AgreeHeld) (move : agree_seen.Moved) → h ≡ old → a.top ≡ h.state.setting.contexts → b ≡ was
    → IsReady was → AgreeMakes move a a2 b.agreed after → sent_by old.state.setting.contexts (record { agreed = after; others = b.others; room = room }) ≡ agreeing move.sent
sent_by-made h old a2 b was after room a move is top out ready made =
    subst (λ (o : Held). sent_by o.state.setting.contexts (record { agreed = after; others = b.others; room = room }) ≡ agreeing move.sent) is
    (sent_by-agreed h.state.setting.contexts b was room out ready after move.sent (rw top at made.sent))
