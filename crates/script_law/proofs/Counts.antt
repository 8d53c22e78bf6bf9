-- How often each thread of a rank has called, and what changes it.
use Rattle.std.proofs.Common.{◌≡◌, ◌+◌, ℕ, List, [], ◌∷◌, map, set, get_or, Option, refl, sym, ap, ◌∙◌}
use Rattle.std.proofs.Math.ListN.{get_or-map}
use Rattle.std.proofs.Math.Seq.{map-set_same}
use Rattle.std.proofs.lemmas.List.{map-set}
use Rattle.mpi_base.specs.declared.keys.Key.{Key}
use Rattle.mpi_base.specs.declared.entries.Act.{Act}
use Rattle.mpi_base.specs.declared.entries.Act.TheVariants.{Call, Answer, Deliver, Offer as MakeOffer, Settle, Leave, Back}
use Rattle.mpi_protocol.specs.declared.rows.Waits.{Waits}
use Rattle.mpi_protocol.specs.declared.rows.ThreadRow.{ThreadRow}
use Rattle.mpi_protocol.specs.Rank.{Rank, thread_at, idle_thread, with_call, with_waits, with_key}

-- the calls that each thread has made, and those where one thread has made one more
abbrev pub counts : List ThreadRow → List ℕ
counts threads = map (λ t. t.calls) threads

abbrev pub one_more : List ℕ → ℕ → List ℕ
one_more xs t = set xs t (get_or xs t 0 + 1)

-- those after an act: only a call makes one more
abbrev pub counts_after : List ℕ → Act → List ℕ
counts_after xs (Call t op) = one_more xs t
counts_after xs (Answer t) = xs
counts_after xs (Deliver from) = xs
counts_after xs (MakeOffer key) = xs
counts_after xs (Settle key) = xs
counts_after xs (Leave c) = xs
counts_after xs (Back c) = xs

pub count_at : (x : Rank) (t : ℕ) → (thread_at x t).calls ≡ get_or (counts x.threads) t 0
count_at x t = sym (get_or-map (λ (y : ThreadRow). y.calls) x.threads t idle_thread)

pub counts-call : (x : Rank) (t : ℕ) (waits : Waits) → counts (with_call x t waits) ≡ one_more (counts x.threads) t
counts-call x t waits =
    map-set (λ (y : ThreadRow). y.calls) x.threads t (record { calls = (thread_at x t).calls + 1; waits = waits })
    ∙ ap (λ (n : ℕ). set (counts x.threads) t (n + 1)) (count_at x t)

pub counts-wait : (x : Rank) (t : ℕ) (waits : Waits) → counts (with_waits x t waits) ≡ counts x.threads
counts-wait x t waits = map-set_same (λ (y : ThreadRow). y.calls) x.threads t (record { calls = (thread_at x t).calls; waits = waits }) idle_thread refl

pub counts-key : (threads : List ThreadRow) (key : Key) (next : Option Key) → counts (with_key threads key next) ≡ counts threads
counts-key [] key next = refl
counts-key (t ∷ ts) key next = ap (λ xs. t.calls ∷ xs) (counts-key ts key next)
