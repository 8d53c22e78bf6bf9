-- The potential is within the bound.
use Rattle.std.proofs.Common.{◌≡◌, ◌≤◌, ◌+◌, ◌*◌, ◌==◌, ℕ, suc, Bool, true, false, List, [], ◌∷◌, length, arith}
use Rattle.std.specs.Prelude.{if◌then◌else◌, nat_lt}
use Rattle.mpi_base.specs.declared.keys.Key.{Key}
use Rattle.mpi_law.specs.ScriptLists.{AllScripts}
use Rattle.agree_law.specs.declared.rows.Stage.{Stage}
use Rattle.agree_law.specs.declared.rows.Stage.TheVariants.{Sharing, Called, Waiting, Offered, Done}
use Rattle.agree_law.specs.Part.{Offer}
use Rattle.agree_law.specs.Packets.{Up, Down, Share, Shares}
use Rattle.comm_law.specs.declared.rows.CommRow.{CommRow}
use Rattle.comm_law.specs.Comms.{is_left}
use Rattle.mpi_protocol.specs.declared.rows.ThreadRow.{ThreadRow}
use Rattle.mpi_protocol.specs.Packets.{Packet, Agreeing, Message, Marker}
use Rattle.mpi_protocol.specs.Rank.{Rank}
use Rattle.mpi_protocol.specs.World.{World}
use Rattle.wayout_law.specs.Potential.{sum_of, sum_at, More, owed, stage_cost, row_cost, agree_cost, comm_cost, comms_cost, waits_now, left_of, thread_cost, threads_cost, packet_cost, rank_cost, links_cost, more_from, more_at, potential, unanswered_by, bound}
use Rattle.wayout_law.proofs.Sums.{sum_of-times, sum_of-each, sum_of-le}

-- no more than two rounds may follow
abbrev pub FewMore : More → Type 0
FewMore more = (key : Key) (i : ℕ) → more key i ≤ 2

pub more_from-few : (now i : ℕ) → more_from now i ≤ 2
more_from-few now i = go (nat_lt i now) (i == now)
  where
    go : (a b : Bool) → (if a then 2 else (if b then 1 else 0)) ≤ 2
    go true b = omega arith
    go false true = omega arith
    go false false = omega arith

owed-one : (gathered : List Offer) (r : ℕ) (key : Key) → owed gathered r key ≤ 1
owed-one gathered r key = go _
  where
    go : (b : Bool) → (if b then 0 else 1) ≤ 1
    go true = omega arith
    go false = omega arith

stage-most : (n : ℕ) (more : More) (gathered : List Offer) (r : ℕ) (key : Key) (s : Stage) → FewMore more → stage_cost n more gathered r key s ≤ n + 10
stage-most n more gathered r key (Sharing s) few = omega arith
stage-most n more gathered r key Called few = let a = few key 0 in let o = owed-one gathered r key in omega (arith, a, o)
stage-most n more gathered r key (Waiting i) few = let a = few key i in omega (arith, a)
stage-most n more gathered r key (Offered i own) few = let a = few key i in let o = owed-one gathered r key in omega (arith, a, o)
stage-most n more gathered r key (Done o) few = omega arith

comm-most : (n : ℕ) (m : CommRow) → comm_cost n m ≤ n + 1
comm-most n m = go (is_left m.stage)
  where
    go : (b : Bool) → (if b then 1 else n + 1) ≤ n + 1
    go true = omega arith
    go false = omega arith

packet-most : (p : Packet) → packet_cost p ≤ 1
packet-most (Agreeing (Up key i own mask)) = omega arith
packet-most (Agreeing (Down key i v)) = omega arith
packet-most (Agreeing (Share key s)) = omega arith
packet-most (Agreeing (Shares key list)) = omega arith
packet-most (Message m) = omega arith
packet-most (Marker c) = omega arith

abbrev pub waiting : List ThreadRow → ℕ
waiting threads = sum_of waits_now threads

-- each open creation has a thread that waits for it
abbrev pub AreWaited : List Rank → Type 0
AreWaited [] = Unit {0}
AreWaited (x ∷ xs) = (length x.agree.opened ≤ waiting x.threads) × AreWaited xs

abbrev lefts : AllScripts → ℕ → ℕ → List ThreadRow → ℕ
lefts scripts r i threads = sum_at (left_of scripts r) i threads

threads-are : (n : ℕ) (scripts : AllScripts) (r i : ℕ) (threads : List ThreadRow) → sum_at (thread_cost n scripts r) i threads ≡ waiting threads + (n + 13) * lefts scripts r i threads
threads-are n scripts r i [] = grind arith
threads-are n scripts r i (t ∷ ts) =
    let ih = threads-are n scripts r (suc i) ts in
    let m : (n + 13) * (left_of scripts r i t + lefts scripts r (suc i) ts) ≡ (n + 13) * left_of scripts r i t + (n + 13) * lefts scripts r (suc i) ts = times (n + 13) (left_of scripts r i t) (lefts scripts r (suc i) ts) in
    omega (arith, ih, m)
  where
    times : (a b c : ℕ) → a * (b + c) ≡ a * b + a * c
    times a b c = grind arith

unanswered-are : (scripts : AllScripts) (r i : ℕ) (threads : List ThreadRow) → sum_at (λ t row. waits_now row + left_of scripts r t row) i threads ≡ waiting threads + lefts scripts r i threads
unanswered-are scripts r i [] = omega arith
unanswered-are scripts r i (t ∷ ts) = let ih = unanswered-are scripts r (suc i) ts in omega (arith, ih)

-- the sums of one rank
weigh : (n o wait left rows ac cc tc u : ℕ) → o ≤ wait → ac ≤ (n + 10) * o → cc ≤ (n + 1) * rows → tc ≡ wait + (n + 13) * left → u ≡ wait + left → ac + cc + tc ≤ (n + 32) * (u + rows)
weigh n o wait left rows ac cc tc u le a c t e =
    let m : (n + 10) * o ≤ (n + 10) * wait = grind (arith, le) in
    let s : (n + 10) * wait + (n + 1) * rows + (wait + (n + 13) * left) ≤ (n + 32) * (wait + left + rows) = spread n wait left rows in
    rw e (omega (arith, a, c, t, m, s))
  where
    spread : (n a b c : ℕ) → (n + 10) * a + (n + 1) * c + (a + (n + 13) * b) ≤ (n + 32) * (a + b + c)
    spread n a b c =
        let x : (n + 32) * (a + b + c) ≡ (n + 10) * a + (n + 1) * c + (a + (n + 13) * b) + (21 * a + 19 * b + 31 * c) = grind arith in
        omega (arith, x)

rank-most : (n : ℕ) (more : More) (scripts : AllScripts) (r : ℕ) (x : Rank) → FewMore more → length x.agree.opened ≤ waiting x.threads → rank_cost n more scripts r x ≤ (n + 32) * (unanswered_by scripts r x + length x.comms.rows)
rank-most n more scripts r x few le =
    weigh n (length x.agree.opened) (waiting x.threads) (lefts scripts r 0 x.threads) (length x.comms.rows) (agree_cost n more x.rank x.agree) (comms_cost n x.comms) (threads_cost n scripts r x.threads) (unanswered_by scripts r x)
    le
    (sum_of-times (row_cost n more x.agree.gathered x.rank) (n + 10) x.agree.opened (λ o. stage-most n more x.agree.gathered x.rank o.key o.stage few))
    (sum_of-times (comm_cost n) (n + 1) x.comms.rows (comm-most n))
    (threads-are n scripts r 0 x.threads)
    (unanswered-are scripts r 0 x.threads)

ranks-most : (n : ℕ) (more : More) (scripts : AllScripts) (i : ℕ) (xs : List Rank) → FewMore more → AreWaited xs → sum_at (rank_cost n more scripts) i xs ≤ (n + 32) * (sum_at (unanswered_by scripts) i xs + sum_of (λ x. length x.comms.rows) xs)
ranks-most n more scripts i [] few h = omega arith
ranks-most n more scripts i (x ∷ xs) few h =
    let ih = ranks-most n more scripts (suc i) xs few h.1 in
    let a = rank-most n more scripts i x few h.0 in
    let m = both (n + 32) (unanswered_by scripts i x) (length x.comms.rows) (sum_at (unanswered_by scripts) (suc i) xs) (sum_of (λ x. length x.comms.rows) xs) in
    omega (arith, ih, a, m)
  where
    both : (c a b d e : ℕ) → c * (a + d + (b + e)) ≡ c * (a + b) + c * (d + e)
    both c a b d e = grind arith

links-most : (links : List (List Packet)) → links_cost links ≤ sum_of length links
links-most links = sum_of-le (sum_of packet_cost) length links (λ l. sum_of-each l packet_cost packet-most)

-- the potential of any world is within the bound
pub potential-bounded : (scripts : AllScripts) (w : World) → AreWaited w.ranks → potential scripts w ≤ bound scripts w
potential-bounded scripts w h =
    let a = ranks-most (length w.ranks) (more_at w) scripts 0 w.ranks (λ key i. more_from-few _ i) h in
    let b = links-most w.links in
    omega (arith, a, b)
