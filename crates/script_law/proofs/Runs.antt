-- What a drained journal calls of each script.
use Rattle.std.proofs.Common.{◌≡◌, ◌≢◌, ◌+◌, ◌<◌, ◌==◌, if◌then◌else◌, ℕ, Bool, true, false, List, [], ◌∷◌, length, get_or, set, Some, refl, sym, subst, ap, ◌∙◌, arith}
use Rattle.std.proofs.lemmas.Bool.Decides.{nat_tests}
use Rattle.std.proofs.lemmas.List.{get_or-set_same, get_or-set_other}
use Rattle.agree_law.proofs.Lists.{length-set}
use Rattle.mpi_base.specs.declared.ops.Op.{Op}
use Rattle.mpi_base.specs.declared.entries.Act.{Act}
use Rattle.mpi_base.specs.declared.entries.Act.TheVariants.{Call, Answer, Deliver, Offer as MakeOffer, Settle, Leave, Back}
use Rattle.mpi_base.specs.declared.entries.Choice.{Choice}
use Rattle.mpi_base.specs.declared.entries.Entry.{Entry}
use Rattle.mpi_law.specs.declared.setting.TheConstants.{THREADS}
use Rattle.mpi_law.specs.ScriptLists.{AllScripts, script_of, next_op}
use Rattle.mpi_protocol.specs.Packets.{Sent}
use Rattle.mpi_protocol.specs.Rank.{Rank, thread_at}
use Rattle.mpi_protocol.specs.Step.{is_enabled}
use Rattle.mpi_protocol.specs.World.{World, blank, rank_at, head_for, taken_off, put_on, links_with, move_of, may_happen, moved}
use Rattle.mpi_protocol.specs.Run.{RunsFrom, world_after, call_of, calls_of}
use Rattle.mpi_protocol.specs.Order.{IsOfScript, IsDrained}
use Rattle.script_law.proofs.Counts.{counts, one_more, counts_after, count_at}
use Rattle.script_law.proofs.Steps.{counts-step}
use Rattle.script_law.proofs.Scripts.{Advances, advances_none, advances_one, advances_on}

-- One rank moves

-- packets that are put on links change no rank
ranks_put : (w : World) (r : ℕ) (ss : List Sent) → (put_on w r ss).ranks ≡ w.ranks
ranks_put w r [] = refl
ranks_put w r (s ∷ ss) = ranks_put (record w { links = links_with w r s }) r ss

ranks_moved : (w : World) (c : Choice) → (moved w c).ranks ≡ set w.ranks c.rank (move_of w c).state
ranks_moved w c = ranks_put (record (taken_off w c.rank c.act) { ranks = set w.ranks c.rank (move_of w c).state }) c.rank (move_of w c).sent

ranks_stay : (w : World) (c : Choice) → length (moved w c).ranks ≡ length w.ranks
ranks_stay w c = ap length (ranks_moved w c) ∙ length-set w.ranks c.rank (move_of w c).state

abbrev pub counts_of : World → ℕ → List ℕ
counts_of w r = counts (rank_at w r).threads

-- the threads of other ranks stay, and those of the rank itself count the act
counts_other : (w : World) (c : Choice) (r : ℕ) → r ≢ c.rank → counts_of (moved w c) r ≡ counts_of w r
counts_other w c r ne =
    let e : rank_at (moved w c) r ≡ rank_at w r = ap (λ (xs : List Rank). get_or xs r blank) (ranks_moved w c) ∙ get_or-set_other w.ranks c.rank r (move_of w c).state blank ne in
    ap (λ (x : Rank). counts x.threads) e

counts_here : (w : World) (c : Choice) → c.rank < length w.ranks → counts_of (moved w c) c.rank ≡ counts_after (counts_of w c.rank) c.act
counts_here w c lt =
    let e : rank_at (moved w c) c.rank ≡ (move_of w c).state = ap (λ (xs : List Rank). get_or xs c.rank blank) (ranks_moved w c) ∙ get_or-set_same w.ranks c.rank (move_of w c).state blank lt in
    ap (λ (x : Rank). counts x.threads) e ∙ counts-step (rank_at w c.rank) c.act (head_for w c.rank c.act)

-- Each rank has its threads

abbrev pub HaveThreads : World → Type 0
HaveThreads w = (r : ℕ) → length (counts_of w r) ≡ THREADS

length_after : (xs : List ℕ) (act : Act) → length (counts_after xs act) ≡ length xs
length_after xs (Call t op) = length-set xs t (get_or xs t 0 + 1)
length_after xs (Answer t) = refl
length_after xs (Deliver from) = refl
length_after xs (MakeOffer key) = refl
length_after xs (Settle key) = refl
length_after xs (Leave c) = refl
length_after xs (Back c) = refl

threads_stay : (w : World) (c : Choice) → c.rank < length w.ranks → HaveThreads w → HaveThreads (moved w c)
threads_stay w c lt h r = go (r == c.rank) refl
  where
    go : (b : Bool) → (r == c.rank) ≡ b → length (counts_of (moved w c) r) ≡ THREADS
    go true e =
        let is : r ≡ c.rank = grind (arith, nat_tests, e) in
        ap (λ (i : ℕ). length (counts_of (moved w c) i)) is ∙ (ap length (counts_here w c lt) ∙ (length_after (counts_of w c.rank) c.act ∙ h c.rank))
    go false e = ap length (counts_other w c r (grind (arith, nat_tests, e))) ∙ h r

-- One entry

abbrev pub calls_at : World → ℕ → ℕ → ℕ
calls_at w r t = (thread_at (rank_at w r) t).calls

-- a call advances the script of its thread
call_advances : (scripts : AllScripts) (xs : List ℕ) (r t u : ℕ) (op : Op) → u < length xs → next_op scripts r u (get_or xs u 0) ≡ Some op
    → Advances (script_of scripts r t) (get_or xs t 0) (get_or (one_more xs u) t 0) (if u == t then op ∷ [] else [])
call_advances scripts xs r t u op lt next = go (u == t) refl
  where
    go : (b : Bool) → (u == t) ≡ b → Advances (script_of scripts r t) (get_or xs t 0) (get_or (one_more xs u) t 0) (if b then op ∷ [] else [])
    go true e =
        let is : u ≡ t = grind (arith, nat_tests, e) in
        let at : next_op scripts r t (get_or xs t 0) ≡ Some op = subst (λ (i : ℕ). next_op scripts r i (get_or xs i 0) ≡ Some op) is next in
        let more : get_or (one_more xs u) t 0 ≡ get_or xs t 0 + 1 =
        subst (λ (i : ℕ). get_or (one_more xs u) i 0 ≡ get_or xs i 0 + 1) is (get_or-set_same xs u (get_or xs u 0 + 1) 0 lt) in
        advances_one (script_of scripts r t) _ _ op at more
    go false e = advances_none (script_of scripts r t) _ _ (get_or-set_other xs u t (get_or xs u 0 + 1) 0 (grind (arith, nat_tests, e)))

elsewhere : (r t rank : ℕ) (act : Act) → (rank == r) ≡ false → call_of r t rank act ≡ []
elsewhere r t rank (Call u op) e = rw e refl
elsewhere r t rank (Answer u) e = refl
elsewhere r t rank (Deliver from) e = refl
elsewhere r t rank (MakeOffer key) e = refl
elsewhere r t rank (Settle key) e = refl
elsewhere r t rank (Leave c) e = refl
elsewhere r t rank (Back c) e = refl

act_advances : (scripts : AllScripts) (x : Rank) (r t : ℕ) (act : Act) → length (counts x.threads) ≡ THREADS → is_enabled x act ≡ true → IsOfScript scripts x r act
    → Advances (script_of scripts r t) (get_or (counts x.threads) t 0) (get_or (counts_after (counts x.threads) act) t 0) (call_of r t r act)
unfolding is_enabled
act_advances scripts x r t (Call u op) long may scripted =
    let lt : u < length (counts x.threads) = grind (arith, nat_tests, long, may) in
    let self : (r == r) ≡ true = grind (arith, nat_tests) in
    let next : next_op scripts r u (get_or (counts x.threads) u 0) ≡ Some op = subst (λ (n : ℕ). next_op scripts r u n ≡ Some op) (count_at x u) scripted in
    rw self (call_advances scripts (counts x.threads) r t u op lt next)
act_advances scripts x r t (Answer u) long may scripted = advances_none (script_of scripts r t) _ _ refl
act_advances scripts x r t (Deliver from) long may scripted = advances_none (script_of scripts r t) _ _ refl
act_advances scripts x r t (MakeOffer key) long may scripted = advances_none (script_of scripts r t) _ _ refl
act_advances scripts x r t (Settle key) long may scripted = advances_none (script_of scripts r t) _ _ refl
act_advances scripts x r t (Leave c) long may scripted = advances_none (script_of scripts r t) _ _ refl
act_advances scripts x r t (Back c) long may scripted = advances_none (script_of scripts r t) _ _ refl

abbrev pub Advanced : AllScripts → World → World → ℕ → ℕ → List Op → Type 0
Advanced scripts w v r t called = Advances (script_of scripts r t) (get_or (counts_of w r) t 0) (get_or (counts_of v r) t 0) called

rank_inside : (w : World) (c : Choice) → may_happen w c ≡ true → c.rank < length w.ranks
rank_inside w c may = grind (arith, nat_tests, may)

entry_advances : (scripts : AllScripts) (w : World) (c : Choice) (r t : ℕ) → HaveThreads w → may_happen w c ≡ true → IsOfScript scripts (rank_at w c.rank) c.rank c.act
    → Advanced scripts w (moved w c) r t (call_of r t c.rank c.act)
entry_advances scripts w c r t h may scripted = go (c.rank == r) refl
  where
    go : (b : Bool) → (c.rank == r) ≡ b → Advanced scripts w (moved w c) r t (call_of r t c.rank c.act)
    go true e =
        let is : c.rank ≡ r = grind (arith, nat_tests, e) in
        let enabled : is_enabled (rank_at w c.rank) c.act ≡ true = grind (arith, may) in
        let one = act_advances scripts (rank_at w c.rank) c.rank t c.act (h c.rank) enabled scripted in
        let new = sym (counts_here w c (rank_inside w c may)) in
        subst (λ (i : ℕ). Advanced scripts w (moved w c) i t (call_of i t c.rank c.act)) is
        (subst (λ (xs : List ℕ). Advances (script_of scripts c.rank t) (get_or (counts_of w c.rank) t 0) (get_or xs t 0) (call_of c.rank t c.rank c.act)) new one)
    go false e =
        let same = counts_other w c r (grind (arith, nat_tests, e)) in
        rw (elsewhere r t c.rank c.act e) (advances_none (script_of scripts r t) _ _ (ap (λ (xs : List ℕ). get_or xs t 0) same))

-- A journal

pub run_advances : (scripts : AllScripts) (w : World) (journal : List Entry) (r t : ℕ) → HaveThreads w → RunsFrom w journal → IsDrained scripts w journal
    → Advanced scripts w (world_after w journal) r t (calls_of r t journal)
run_advances scripts w [] r t h run drained = advances_none (script_of scripts r t) _ _ refl
run_advances scripts w (e ∷ es) r t h run drained =
    advances_on (script_of scripts r t) _ _ _ _ _ (entry_advances scripts w e.choice r t h run.0 drained.0.may.scripted)
    (run_advances scripts (moved w e.choice) es r t (threads_stay w e.choice (rank_inside w e.choice run.0) h) run.2 drained.1)

pub ranks_after : (w : World) (journal : List Entry) → length (world_after w journal).ranks ≡ length w.ranks
ranks_after w [] = refl
ranks_after w (e ∷ es) = ranks_after (moved w e.choice) es ∙ ranks_stay w e.choice
