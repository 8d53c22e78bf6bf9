-- The registry is between calls: each of its threads waits for the kind of thing that the rank's thread waits for, and that
-- is never a reply that is there, a message to send or a receive to post.
use Rattle.std.proofs.Common.{◌≡◌, ◌<◌, ℕ, suc, not, Bool, true, List, [], ◌∷◌, length, get_or, refl, arith}
use Rattle.std.specs.List.{list_all}
use Rattle.mpi_law.specs.declared.setting.Setting.{Setting}
use Rattle.mpi_law.specs.Registry.State as reg
use Rattle.mpi_law.specs.Registry.State.{Registry, ThreadPart, RankPart, Wait, blank_part, idle_thread, is_within_call, is_between_calls}
use Rattle.mpi_protocol.specs.declared.rows.Waits.{Waits}
use Rattle.mpi_protocol.specs.declared.rows.Waits.TheVariants.{Nothing, Creation, Uncoloured, Freeing, Ending, Receiving, Awaiting}
use Rattle.mpi_protocol.specs.Rank.{Rank}
use Rattle.due_law.specs.Dues.{Dues}
use Rattle.run_law.proofs.Threads.{WaitFits, row_of, part_row}
use Rattle.run_law.proofs.Joined.{rank_in, Joined}

-- what holds at each place of a list
all_at : {A : Type 0} (p : A → Bool) (xs : List A) (d : A) → ((i : ℕ) → i < length xs → p (get_or xs i d) ≡ true) → list_all p xs ≡ true
all_at p [] d h = refl
all_at p (x ∷ xs) d h =
    let here : p x ≡ true = h 0 (omega arith) in
    let rest = all_at p xs d (λ i lt. h (suc i) (omega (arith, lt))) in
    grind (arith, here, rest)

pub apart_from_calls : (a : Waits) (b : Wait) → WaitFits a b → not (is_within_call b) ≡ true
apart_from_calls Nothing reg.Idle h = refl
apart_from_calls (Creation key target session) (reg.Creating n) h = refl
apart_from_calls (Uncoloured key target session) (reg.Creating n) h = refl
apart_from_calls (Freeing serial) (reg.Freeing p) h = refl
apart_from_calls (Ending s) (reg.Ending q) h = refl
apart_from_calls (Receiving n) (reg.Receiving m) h = refl
apart_from_calls (Awaiting name) (reg.Awaiting other) h = refl
apart_from_calls a b h = absurd h

pub between_calls : (s : Setting) (ranks : List Rank) (due : Dues) (g : Registry) → Joined s ranks due g → is_between_calls g ≡ true
between_calls s ranks due g j =
    all_at (λ (p : RankPart). list_all (λ (t : ThreadPart). not (is_within_call t.wait)) p.threads) g.ranks blank_part (λ r lr.
    all_at (λ (t : ThreadPart). not (is_within_call t.wait)) (get_or g.ranks r blank_part).threads idle_thread (λ t lt.
    apart_from_calls (row_of (rank_in ranks r).threads t).waits (part_row (get_or g.ranks r blank_part).threads t).wait ((j.threads r).waits t)))
