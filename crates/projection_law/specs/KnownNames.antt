-- That each communicator that a name is bound to is known at its rank: a premise of the laws of this crate that holds of
-- every protocol run (`registry_law`).
use Rattle.std.specs.Prelude.{◌≡◌, ℕ, not, Bool, true, false, List, [], ◌∷◌, Option, Some, None}
use Rattle.mpi_base.specs.declared.entries.Act.{Act}
use Rattle.mpi_base.specs.declared.entries.Act.TheVariants.{Call, Answer, Deliver, Offer, Settle, Leave, Back}
use Rattle.mpi_base.specs.declared.entries.Entry.{Entry}
use Rattle.local_law.specs.Names.{bound_of}
use Rattle.local_law.specs.Objects as bound
use Rattle.mpi_law.specs.declared.setting.Setting.{Setting}
use Rattle.comm_law.specs.declared.rows.CommRow.{CommRow}
use Rattle.comm_law.specs.Comms.{row_at, is_left}
use Rattle.mpi_protocol.specs.Rank.{Rank}
use Rattle.mpi_protocol.specs.World.{World, opening, rank_at, moved}

-- whether there is a row, of a communicator that is not left
abbrev pub is_known : Option CommRow → Bool
is_known None = false
is_known (Some m) = not (is_left m.stage)

-- each communicator that a name of the rank is bound to is known there and not left
abbrev pub NamesAreKnown : Rank → Type 0
NamesAreKnown x = (name : List ℕ) (c session : ℕ) → bound_of x.local.names name ≡ Some (bound.Comm c session) → is_known (row_at x.comms c) ≡ true

-- so are those of a caller
abbrev pub NamesAreKnownFor : Rank → Act → Type 0
NamesAreKnownFor x (Call t op) = NamesAreKnown x
NamesAreKnownFor x (Answer t) = Unit {0}
NamesAreKnownFor x (Deliver from) = Unit {0}
NamesAreKnownFor x (Offer key) = Unit {0}
NamesAreKnownFor x (Settle key) = Unit {0}
NamesAreKnownFor x (Leave c) = Unit {0}
NamesAreKnownFor x (Back c) = Unit {0}

-- so are those of each caller in a journal, from a world
abbrev pub NamesAreKnownFrom : World → List Entry → Type 0
NamesAreKnownFrom w [] = Unit {0}
NamesAreKnownFrom w (e ∷ es) = NamesAreKnownFor (rank_at w e.choice.rank) e.choice.act × NamesAreKnownFrom (moved w e.choice) es

-- the premise of the laws: so are those of each caller in a journal, when it calls
abbrev pub CallersNamesAreKnown : Setting → List Entry → Type 0
CallersNamesAreKnown s journal = NamesAreKnownFrom (opening s) journal
