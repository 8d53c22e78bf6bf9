-- The offer rule: which key may own a rank's mask. This project's own.
use Rattle.std.specs.Prelude.{◌&&◌, ◌||◌, not, Bool, true, false, if◌then◌else◌, List, Option, Some, None, is_none}
use Rattle.std.specs.List.{list_all}
use Rattle.mpi_base.specs.declared.keys.Key.{Key}
use Rattle.mpi_base.specs.Keys.{same_key, key_before}
use Rattle.agree_law.specs.declared.rows.Stage.{Stage}
use Rattle.agree_law.specs.declared.rows.Stage.TheVariants.{Sharing, Called, Waiting, Offered, Done}
use Rattle.agree_law.specs.declared.rows.CreationRow.{CreationRow}
use Rattle.agree_law.specs.Part.{Agree, stage_of}

-- whether the key is there and is this one
abbrev pub is_key : Option Key → Key → Bool
is_key None key = false
is_key (Some k) key = same_key k key

-- a creation competes for the mask from round 1 on, until it is decided
abbrev pub is_waiting : Option Stage → Bool
is_waiting None = false
is_waiting (Some (Sharing s)) = false
is_waiting (Some Called) = false
is_waiting (Some (Waiting i)) = true
is_waiting (Some (Offered i own)) = true
is_waiting (Some (Done c)) = false

-- no waiting key of the rank comes before this one
unfoldable pub is_least : List CreationRow → Key → Bool
is_least opened key = list_all (λ o. not (is_waiting (stage_of opened o.key)) || not (key_before o.key key)) opened

-- an offer owns the mask exactly where no key owns it and its key is the least of the waiting keys
unfoldable pub may_own : Agree → Key → Bool
may_own a key = is_none a.owner && is_least a.opened key

-- the owner after a key lets go of the mask: none where the key owned it, else as before
abbrev pub let_go : Option Key → Key → Option Key
let_go owner key = if is_key owner key then None else owner
