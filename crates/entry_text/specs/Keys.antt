-- Keys of creations, as a line shows them.
use Rattle.std.specs.Prelude.{◌≡◌, ℕ, ◌≤◌, List, [], ◌∷◌, codes, decimal}
use Rattle.mpi_base.specs.Texts.{IsTag}
use Rattle.mpi_base.specs.MemberLists.{AreRanks}
use Rattle.mpi_base.specs.declared.keys.Kind.{Kind}
use Rattle.mpi_base.specs.declared.keys.Kind.TheVariants as kind
use Rattle.mpi_base.specs.declared.keys.Key.{Key}
use Rattle.token_text.specs.Texts.{tag_form}
use Rattle.token_text.specs.Lists.{members_form}
use Rattle.entry_text.specs.Labels.{most_16, most_64}

-- what a key with a parent shows behind its word
abbrev pub parent_tokens : Key → List (List ℕ)
parent_tokens k = decimal k.parent ∷ decimal k.number ∷ members_form.text k.members ∷ []

-- the word of a kind
abbrev pub kind_text : Kind → List ℕ
kind_text kind.From = codes "from"
kind_text kind.Group = codes "group"
kind_text kind.Dup = codes "dup"
kind_text kind.Split = codes "split"
kind_text kind.Share = codes "share"

-- what stands behind the word
abbrev pub behind_kind : Kind → Key → List (List ℕ)
behind_kind kind.From k = tag_form.text k.tag ∷ members_form.text k.members ∷ []
behind_kind kind.Group k = parent_tokens k
behind_kind kind.Dup k = parent_tokens k
behind_kind kind.Split k = parent_tokens k
behind_kind kind.Share k = parent_tokens k

-- the tokens of a key
abbrev pub key_tokens : Key → List (List ℕ)
key_tokens k = kind_text k.kind ∷ behind_kind k.kind k

-- what the tokens of a key do not show is 0 or empty
abbrev pub ShowsAll : Kind → Key → Type 0
ShowsAll kind.From k = (k.parent ≡ 0) × (k.number ≡ 0)
ShowsAll kind.Group k = k.tag ≡ []
ShowsAll kind.Dup k = k.tag ≡ []
ShowsAll kind.Split k = k.tag ≡ []
ShowsAll kind.Share k = k.tag ≡ []

-- a key whose numbers, tag and members are in their ranges, and whose tokens show all of it
pub record IsKey (k : Key) : Type 0 where
  pub parent : k.parent ≤ most_16
  pub number : k.number ≤ most_64
  pub tag : IsTag k.tag
  pub members : AreRanks k.members
  pub shows_all : ShowsAll k.kind k
