-- How many steps the drain may still take: each operation, creation, communicator and packet is charged for what it may still
-- ask for. The weights are this project's own. With n ranks, and `more key i` for the rounds of the key that may come after round i:
--
--   operation not called                                n + 13
--   thread that waits                                   1
--   creation: Sharing                                   n + 10
--   creation: Called, or Offered in round i             n + 2 + 3 * more key i  (Called: i = 0), and 1 for an `Up` not sent yet
--   creation: Waiting for its offer of round i          n + 4 + 3 * more key i
--   creation: Done                                      0
--   communicator not left, left                         n + 1, 1
--   `Up`, `Share`, message, marker on a link            1
--   `Down`, `Shares` on a link                          0
use Rattle.std.specs.Prelude.{ℕ, zero, suc, ◌+◌, ◌*◌, ◌==◌, if◌then◌else◌, List, [], ◌∷◌, length, nat_lt}
use Rattle.mpi_base.specs.declared.keys.Key.{Key}
use Rattle.mpi_base.specs.declared.ops.Op.{Op}
use Rattle.mpi_law.specs.ScriptLists.{AllScripts, script_of}
use Rattle.agree_law.specs.declared.rows.CreationRow.{CreationRow}
use Rattle.agree_law.specs.declared.rows.Stage.{Stage}
use Rattle.agree_law.specs.declared.rows.Stage.TheVariants.{Sharing, Called, Waiting, Offered, Done}
use Rattle.agree_law.specs.Tree.{place_in, member_at}
use Rattle.agree_law.specs.Part.{Offer, Agree, round_of}
use Rattle.agree_law.specs.Packets.{Up, Down, Share, Shares}
use Rattle.agree_law.specs.Gather.{is_ready}
use Rattle.comm_law.specs.declared.rows.CommRow.{CommRow}
use Rattle.comm_law.specs.Comms.{Comms, is_left}
use Rattle.mpi_protocol.specs.declared.rows.ThreadRow.{ThreadRow}
use Rattle.mpi_protocol.specs.Packets.{Packet, Sent, Agreeing, Message, Marker}
use Rattle.mpi_protocol.specs.Rank.{Rank, is_idle}
use Rattle.mpi_protocol.specs.World.{World, rank_at}

-- the sum of a number for each item, and for each item and its place
abbrev pub sum_of : {A : Type 0} → (A → ℕ) → List A → ℕ
sum_of f [] = 0
sum_of f (x ∷ xs) = f x + sum_of f xs

abbrev pub sum_at : {A : Type 0} → (ℕ → A → ℕ) → ℕ → List A → ℕ
sum_at f i [] = 0
sum_at f i (x ∷ xs) = f i x + sum_at f (suc i) xs

-- how many rounds after a round of a key may still come: a number that the proof chooses
abbrev pub More : Type 0
More = Key → ℕ → ℕ

-- Creations

-- the `Up` that the rank owes while its gather is not whole
abbrev pub owed : List Offer → ℕ → Key → ℕ
owed gathered r key = if is_ready gathered key (place_in key.members r) then 0 else 1

-- with a round: what its verdict leads to, and three steps for each round that may follow; with a communicator n + 1
abbrev pub stage_cost : ℕ → More → List Offer → ℕ → Key → Stage → ℕ
stage_cost n more gathered r key (Sharing s) = n + 10
stage_cost n more gathered r key Called = n + 2 + 3 * more key 0 + owed gathered r key
stage_cost n more gathered r key (Waiting i) = n + 4 + 3 * more key i
stage_cost n more gathered r key (Offered i own) = n + 2 + 3 * more key i + owed gathered r key
stage_cost n more gathered r key (Done o) = 0

abbrev pub row_cost : ℕ → More → List Offer → ℕ → CreationRow → ℕ
row_cost n more gathered r o = stage_cost n more gathered r o.key o.stage

abbrev pub agree_cost : ℕ → More → ℕ → Agree → ℕ
agree_cost n more r a = sum_of (row_cost n more a.gathered r) a.opened

-- Communicators: the leave, a marker to each other member, the give-back

abbrev pub comm_cost : ℕ → CommRow → ℕ
comm_cost n m = if is_left m.stage then 1 else n + 1

abbrev pub comms_cost : ℕ → Comms → ℕ
comms_cost n t = sum_of (comm_cost n) t.rows

-- Threads: the answer of what it waits for, and the operations that are left

abbrev pub waits_now : ThreadRow → ℕ
waits_now t = if is_idle t.waits then 0 else 1

abbrev pub left_after : List Op → ℕ → ℕ
left_after [] k = 0
left_after (o ∷ os) zero = suc (left_after os zero)
left_after (o ∷ os) (suc k) = left_after os k

abbrev pub left_of : AllScripts → ℕ → ℕ → ThreadRow → ℕ
left_of scripts r t row = left_after (script_of scripts r t) row.calls

abbrev pub thread_cost : ℕ → AllScripts → ℕ → ℕ → ThreadRow → ℕ
thread_cost n scripts r t row = waits_now row + (n + 13) * left_of scripts r t row

abbrev pub threads_cost : ℕ → AllScripts → ℕ → List ThreadRow → ℕ
threads_cost n scripts r threads = sum_at (thread_cost n scripts r) 0 threads

-- Packets: a verdict and a list of shares are charged at their receivers

abbrev pub packet_cost : Packet → ℕ
packet_cost (Agreeing (Up key i own mask)) = 1
packet_cost (Agreeing (Down key i v)) = 0
packet_cost (Agreeing (Share key s)) = 1
packet_cost (Agreeing (Shares key list)) = 0
packet_cost (Message m) = 1
packet_cost (Marker c) = 1

abbrev pub sent_cost : Sent → ℕ
sent_cost s = packet_cost s.packet

-- All

abbrev pub rank_cost : ℕ → More → AllScripts → ℕ → Rank → ℕ
rank_cost n more scripts r x = agree_cost n more x.rank x.agree + comms_cost n x.comms + threads_cost n scripts r x.threads

abbrev pub links_cost : List (List Packet) → ℕ
links_cost links = sum_of (sum_of packet_cost) links

abbrev pub cost : ℕ → More → AllScripts → World → ℕ
cost n more scripts w = sum_at (rank_cost n more scripts) 0 w.ranks + links_cost w.links

-- What it is at most

-- a creation waits for the round that it was in when the drain began, and for the one after it
abbrev pub more_from : ℕ → ℕ → ℕ
more_from now i = if nat_lt i now then 2 else (if i == now then 1 else 0)

-- the round of a key at its first member
abbrev pub first_round : World → Key → ℕ
first_round w key = round_of (rank_at w (member_at key.members 0)).agree.rounds key

abbrev pub more_at : World → More
more_at w key i = more_from (first_round w key) i

-- where no round after the first can end in a retry
abbrev pub more_late : More
more_late key i = more_from 0 i

abbrev pub potential : AllScripts → World → ℕ
potential scripts w = cost (length w.ranks) (more_at w) scripts w

-- the operations not answered, called or not
abbrev pub unanswered_by : AllScripts → ℕ → Rank → ℕ
unanswered_by scripts r x = sum_at (λ t row. waits_now row + left_of scripts r t row) 0 x.threads

abbrev pub unanswered : AllScripts → World → ℕ
unanswered scripts w = sum_at (unanswered_by scripts) 0 w.ranks

abbrev pub live_pairs : World → ℕ
live_pairs w = sum_of (λ x. length x.comms.rows) w.ranks

abbrev pub in_flight : World → ℕ
in_flight w = sum_of length w.links

abbrev pub bound : AllScripts → World → ℕ
bound scripts w = (length w.ranks + 32) * (unanswered scripts w + live_pairs w) + in_flight w
