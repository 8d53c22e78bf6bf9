-- From the opening, where nothing is called and nothing is on its way, the bound is n + 32 for each operation of the scripts.
use Rattle.std.proofs.Common.{◌≡◌, ◌≤◌, ◌+◌, ◌*◌, ℕ, zero, suc, List, [], ◌∷◌, map, length, get_or, replicate, sum_by, refl, ap, ◌∙◌, arith}
use Rattle.std.specs.List.{range_with_len}
use Rattle.std.proofs.lemmas.List.{length-map}
use Rattle.std.proofs.lemmas.List.FromFn.{length-range_with_len}
use Rattle.std.proofs.lemmas.List.Sums.{sum_by-cons}
use Rattle.mpi_base.specs.declared.entries.Entry.{Entry}
use Rattle.mpi_base.specs.declared.ops.Op.{Op}
use Rattle.mpi_law.specs.declared.setting.Setting.{Setting}
use Rattle.mpi_law.specs.declared.setting.TheConstants.{THREADS}
use Rattle.mpi_law.specs.ScriptLists.{AllScripts, script_of, total_of}
use Rattle.mpi_protocol.specs.Packets.{Packet}
use Rattle.mpi_protocol.specs.Rank.{Rank, fresh, idle_thread}
use Rattle.mpi_protocol.specs.World.{opening}
use Rattle.mpi_protocol.specs.Order.{IsDrained}
use Rattle.projection_law.specs.Premises.{SetsAreOfRanks}
use Rattle.projection_law.specs.KnownNames.{NamesAreKnownFrom}
use Rattle.wayout_law.specs.Potential.{sum_of, sum_at, waits_now, left_after, left_of, unanswered_by, unanswered, live_pairs, in_flight, bound}
use Rattle.wayout_law.specs.Facts.{IsWithinJob}
use Rattle.wayout_law.proofs.RunLaw.{drains_are_short}

-- the lengths of so many lists from a place on
span : List (List Op) → ℕ → ℕ → ℕ
span lists a zero = 0
span lists a (suc m) = length (get_or lists a []) + span lists (suc a) m

span-more : (lists : List (List Op)) (a m k : ℕ) → span lists a (m + k) ≡ span lists a m + span lists (a + m) k
unfolding span
span-more lists a zero k = let i : zero + k ≡ k = omega arith in let j : a + zero ≡ a = omega arith in rw (i, j) (omega arith)
span-more lists a (suc m) k =
    let ih = span-more lists (suc a) m k in
    let i : suc m + k ≡ suc (m + k) = omega arith in
    let j : a + suc m ≡ suc a + m = omega arith in
    rw (i, j) (omega (arith, ih))

span-rest : (l : List Op) (lists : List (List Op)) (a m : ℕ) → span (l ∷ lists) (suc a) m ≡ span lists a m
unfolding span
span-rest l lists a zero = refl
span-rest l lists a (suc m) = let ih = span-rest l lists (suc a) m in omega (arith, ih)

-- together they are no longer than all
span-all : (lists : List (List Op)) (m : ℕ) → span lists 0 m ≤ sum_by length lists
unfolding span
span-all lists zero = omega arith
span-all [] (suc m) = let ih = none 0 (suc m) in omega (arith, ih)
  where
    none : (a m : ℕ) → span [] a m ≡ 0
    none a zero = refl
    none a (suc m) = let ih = none (suc a) m in omega (arith, ih)
span-all (l ∷ lists) (suc m) =
    let ih = span-all lists m in
    let r = span-rest l lists 0 m in
    let c = sum_by-cons length l lists in
    omega (arith, ih, r, c)

-- nothing is called yet

all_left : (os : List Op) → left_after os 0 ≡ length os
all_left [] = refl
all_left (o ∷ os) = let ih = all_left os in omega (arith, ih)

thread_span : (scripts : AllScripts) (r t m : ℕ) → sum_at (λ i row. waits_now row + left_of scripts r i row) t (replicate m idle_thread) ≡ span scripts.lists (THREADS * r + t) m
unfolding span
thread_span scripts r t zero = refl
thread_span scripts r t (suc m) =
    let ih = thread_span scripts r (suc t) m in
    let here = all_left (script_of scripts r t) in
    let next : THREADS * r + suc t ≡ suc (THREADS * r + t) = omega arith in
    omega (arith, ih, here, ap (λ a. span scripts.lists a m) next)

rank_span : (s : Setting) (scripts : AllScripts) (i n : ℕ) → sum_at (unanswered_by scripts) i (map (fresh s) (range_with_len i n)) ≡ span scripts.lists (THREADS * i) (THREADS * n)
unfolding span
rank_span s scripts i zero = refl
rank_span s scripts i (suc n) =
    let ih = rank_span s scripts (i + 1) n in
    let here = thread_span scripts i 0 THREADS in
    let more = span-more scripts.lists (THREADS * i) THREADS (THREADS * n) in
    let a : THREADS * (i + 1) ≡ THREADS * i + THREADS = omega arith in
    let b : THREADS * suc n ≡ THREADS + THREADS * n = omega arith in
    let c : THREADS * i + 0 ≡ THREADS * i = omega arith in
    let d : i + 1 ≡ suc i = omega arith in
    rw b (omega (arith, ih, here, more, ap (λ z. span scripts.lists z (THREADS * n)) a, ap (λ z. span scripts.lists z THREADS) c, ap (λ z. sum_at (unanswered_by scripts) z (map (fresh s) (range_with_len (i + 1) n))) d))

no_pairs : (s : Setting) (i n : ℕ) → sum_of (λ (x : Rank). length x.comms.rows) (map (fresh s) (range_with_len i n)) ≡ 0
no_pairs s i zero = refl
no_pairs s i (suc n) = let ih = no_pairs s (i + 1) n in omega (arith, ih)

no_packets : (k : ℕ) → sum_of length (replicate {A = List Packet} k []) ≡ 0
no_packets zero = refl
no_packets (suc k) = let ih = no_packets k in omega (arith, ih)

bound-opening : (s : Setting) (scripts : AllScripts) → bound scripts (opening s) ≤ (s.ranks + 32) * total_of scripts
bound-opening s scripts =
    weigh (length (opening s).ranks) s.ranks (unanswered scripts (opening s)) (live_pairs (opening s)) (in_flight (opening s)) (total_of scripts)
    (length-map (range_with_len 0 s.ranks) (fresh s) ∙ length-range_with_len 0 s.ranks)
    (let a = rank_span s scripts 0 s.ranks in let b = span-all scripts.lists (THREADS * s.ranks) in let c : THREADS * 0 ≡ 0 = refl in omega (arith, a, b, ap (λ z. span scripts.lists z (THREADS * s.ranks)) c))
    (no_pairs s 0 s.ranks) (no_packets (s.ranks * s.ranks))
  where
    weigh : (n ranks u l f total : ℕ) → n ≡ ranks → u ≤ total → l ≡ 0 → f ≡ 0 → (n + 32) * (u + l) + f ≤ (ranks + 32) * total
    weigh n ranks u l f total size le no_l no_f =
        let m : (ranks + 32) * u ≤ (ranks + 32) * total = grind (arith, le) in
        let z : u + l ≡ u = omega (arith, no_l) in
        rw (size, z) (omega (arith, m, no_f))

pub jobs_are_short : (s : Setting) (scripts : AllScripts) (es : List Entry) → SetsAreOfRanks s → NamesAreKnownFrom (opening s) es → IsDrained scripts (opening s) es → IsWithinJob s scripts es
jobs_are_short s scripts es sets known drained =
    let a = drains_are_short s scripts [] es sets tt tt known drained in
    let b = bound-opening s scripts in
    omega (arith, a, b)
