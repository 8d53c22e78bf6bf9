-- What a place has gathered for a round, and the verdict of the first member. `top` is the greatest context.
use Rattle.std.specs.Prelude.{ℕ, ◌+◌, ◌==◌, ◌&&◌, ◌||◌, not, Bool, false, if◌then◌else◌, List, [], ◌∷◌, length, get_or, find, Option, Some, None}
use Rattle.std.specs.List.{list_all, list_any, range_with_len}
use Rattle.mpi_base.specs.declared.keys.Key.{Key}
use Rattle.mpi_base.specs.Keys.{same_key}
use Rattle.ctx_mask.specs.Masks.{full_of, both}
use Rattle.agree_law.specs.declared.rows.Verdict.{Verdict}
use Rattle.agree_law.specs.declared.rows.Verdict.TheVariants.{Ready, Retry, Context, Exhausted}
use Rattle.agree_law.specs.Tree.{children_of}
use Rattle.agree_law.specs.Part.{Offer}

-- whether an offer for the key is gathered from the place
abbrev pub has_offer : List Offer → Key → ℕ → Bool
has_offer gathered key place = list_any (λ o. same_key o.key key && (o.place == place)) gathered

-- the place's own offer and that of each child are there; those of earlier rounds are dropped with the verdict
unfoldable pub is_ready : List Offer → Key → ℕ → Bool
is_ready gathered key place = list_all (has_offer gathered key) (place ∷ children_of place (length key.members))

-- whether each gathered offer for the key owns its mask
unfoldable pub all_own : List Offer → Key → Bool
all_own gathered key = list_all (λ o. not (same_key o.key key) || o.own) gathered

-- the and of the masks that are gathered
abbrev pub common_mask : ℕ → List Offer → Key → List Bool
common_mask top [] key = full_of (top + 1) top
common_mask top (o ∷ os) key = if same_key o.key key then both o.mask (common_mask top os key) else common_mask top os key

-- the verdict on the least common context, if there is one
abbrev pub picked : Option ℕ → Verdict
picked None = Exhausted
picked (Some c) = Context c

-- the least common context from 1 to the greatest
unfoldable pub least_common : ℕ → List Offer → Key → Option ℕ
least_common top gathered key = find (λ c. get_or (common_mask top gathered key) c false) (range_with_len 1 top)

-- round 0: ready; later: the least common context where all own, exhausted where there is none, else one more round
abbrev pub verdict_of : ℕ → List Offer → Key → ℕ → Verdict
verdict_of top gathered key round =
    if round == 0 then Ready else (if all_own gathered key then picked (least_common top gathered key) else Retry)
