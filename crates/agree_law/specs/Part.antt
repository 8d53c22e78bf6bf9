-- The part of a rank that agrees on contexts, as lists. This project's own.
use Rattle.std.specs.Prelude.{ℕ, ◌+◌, not, Bool, if◌then◌else◌, List, [], ◌∷◌, ◌++◌, map, filter, find, option_map, Option, None, unwrap_or}
use Rattle.mpi_base.specs.declared.keys.Key.{Key}
use Rattle.mpi_base.specs.Keys.{same_key}
use Rattle.ctx_mask.specs.Masks.{full_of}
use Rattle.agree_law.specs.declared.rows.Stage.{Stage}
use Rattle.agree_law.specs.declared.rows.CreationRow.{CreationRow}
use Rattle.agree_law.specs.declared.rows.RoundRow.{RoundRow}
use Rattle.agree_law.specs.declared.rows.ShareRow.{ShareRow}

-- an offer gathered at a place: that of the place itself, or what the `Up` of a child said of the child's subtree
pub record Offer : Type 0 where
  pub key : Key
  pub place : ℕ
  pub own : Bool
  pub mask : List Bool

-- Contexts are places of the mask, from 1 to the greatest. The owner is the key whose offer holds the mask.
-- The gather of a key is its offers with its round; the exchange of a key is its shares.
pub record Agree : Type 0 where
  pub mask : List Bool
  pub owner : Option Key
  pub opened : List CreationRow
  pub gathered : List Offer
  pub rounds : List RoundRow
  pub shares : List ShareRow

-- nothing called, nothing there
abbrev pub fresh : ℕ → Agree
fresh top = record { mask = full_of (top + 1) top; owner = None; opened = []; gathered = []; rounds = []; shares = [] }

-- Lookups

-- how far the creation of a key is here, if it is open
abbrev pub stage_of : List CreationRow → Key → Option Stage
stage_of opened key = option_map (λ o. o.stage) (find (λ o. same_key o.key key) opened)

-- the round of a gather; a key without a row is at round 0
abbrev pub round_of : List RoundRow → Key → ℕ
round_of rounds key = unwrap_or (option_map (λ o. o.round) (find (λ o. same_key o.key key) rounds)) 0

-- Changes of rows

-- a creation is opened at a stage
abbrev pub open_creation : List CreationRow → Key → Stage → List CreationRow
open_creation opened key stage = opened ++ record { key = key; stage = stage } ∷ []

-- a row at another stage, where it is of the key
abbrev pub staged : Key → Stage → CreationRow → CreationRow
staged key stage o = if same_key o.key key then record { key = o.key; stage = stage } else o

-- the creation of the key goes to another stage
abbrev pub set_stage : List CreationRow → Key → Stage → List CreationRow
set_stage opened key stage = map (staged key stage) opened

-- the creation of the key is open no more
abbrev pub close_creation : List CreationRow → Key → List CreationRow
close_creation opened key = filter (λ o. not (same_key o.key key)) opened

-- the gather of the key is at round 0
abbrev pub drop_round : List RoundRow → Key → List RoundRow
drop_round rounds key = filter (λ o. not (same_key o.key key)) rounds

-- the gather of the key goes to another round
abbrev pub set_round : List RoundRow → Key → ℕ → List RoundRow
set_round rounds key round = drop_round rounds key ++ record { key = key; round = round } ∷ []

-- what is gathered without the offers for the key
abbrev pub drop_offers : List Offer → Key → List Offer
drop_offers gathered key = filter (λ o. not (same_key o.key key)) gathered

-- what is gathered without the shares of the key
abbrev pub drop_shares : List ShareRow → Key → List ShareRow
drop_shares shares key = filter (λ o. not (same_key o.key key)) shares
