-- The premise of the laws as a test, for the examples.
use Rattle.std.proofs.Common.{◌≡◌, ◌&&◌, Bool, true, List, [], ◌∷◌}
use Rattle.std.specs.List.{list_all}
use Rattle.mpi_base.specs.declared.entries.Act.{Act}
use Rattle.mpi_base.specs.declared.entries.Act.TheVariants.{Call, Answer, Deliver, Offer as MakeOffer, Settle, Leave, Back}
use Rattle.mpi_base.specs.declared.entries.Entry.{Entry}
use Rattle.local_law.specs.Objects as bound
use Rattle.mpi_law.specs.Local.Objects.{Bound, NameRow}
use Rattle.agree_law.proofs.Lists.{AllOf}
use Rattle.comm_law.specs.Comms.{Comms, row_at}
use Rattle.mpi_protocol.specs.Rank.{Rank}
use Rattle.mpi_protocol.specs.World.{World, rank_at, moved}
use Rattle.projection_law.proofs.BothTests.{left_of, right_of}
use Rattle.projection_law.specs.KnownNames.{is_known, NamesAreKnownFor, NamesAreKnownFrom}
use Rattle.projection_law.proofs.Operations.{bound_fits}

-- whether what a name is bound to is no communicator, or one that is known here
abbrev pub is_bound_known : Comms → Bound → Bool
is_bound_known comms bound.Reserved = true
is_bound_known comms (bound.Session q) = true
is_bound_known comms (bound.Group ms q) = true
is_bound_known comms (bound.Comm c q) = is_known (row_at comms c)
is_bound_known comms (bound.Request k) = true

-- whether the names of a caller are bound to known communicators
abbrev pub is_known_for : Rank → Act → Bool
is_known_for x (Call t op) = list_all (λ (row : NameRow). is_bound_known x.comms row.1) x.local.names
is_known_for x (Answer t) = true
is_known_for x (Deliver from) = true
is_known_for x (MakeOffer key) = true
is_known_for x (Settle key) = true
is_known_for x (Leave c) = true
is_known_for x (Back c) = true

-- whether those of each caller in a journal are
unfoldable pub all_known : World → List Entry → Bool
all_known w [] = true
all_known w (e ∷ es) = is_known_for (rank_at w e.choice.rank) e.choice.act && all_known (moved w e.choice) es

each_known : (comms : Comms) (names : List NameRow) → list_all (λ (row : NameRow). is_bound_known comms row.1) names ≡ true → AllOf (λ (row : NameRow). is_bound_known comms row.1 ≡ true) names
each_known comms [] e = tt
each_known comms (n ∷ ns) e = (left_of (is_bound_known comms n.1) _ e, each_known comms ns (right_of (is_bound_known comms n.1) _ e))

are_known_for : (x : Rank) (act : Act) → is_known_for x act ≡ true → NamesAreKnownFor x act
are_known_for x (Call t op) e = λ name c session there. bound_fits (λ b. is_bound_known x.comms b ≡ true) x.local.names name (bound.Comm c session) (each_known x.comms x.local.names e) there
are_known_for x (Answer t) e = tt
are_known_for x (Deliver from) e = tt
are_known_for x (MakeOffer key) e = tt
are_known_for x (Settle key) e = tt
are_known_for x (Leave c) e = tt
are_known_for x (Back c) e = tt

pub are_all_known : (w : World) (journal : List Entry) → all_known w journal ≡ true → NamesAreKnownFrom w journal
unfolding all_known
are_all_known w [] e = tt
are_all_known w (x ∷ xs) e = (are_known_for (rank_at w x.choice.rank) x.choice.act (left_of (is_known_for (rank_at w x.choice.rank) x.choice.act) _ e), are_all_known (moved w x.choice) xs (right_of (is_known_for (rank_at w x.choice.rank) x.choice.act) _ e))
