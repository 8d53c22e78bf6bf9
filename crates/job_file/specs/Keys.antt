-- The keys at the top of a job, and what is told of a key.
use Rattle.std.specs.Prelude.{ℕ, Bool, if◌then◌else◌, List, take, codes, bytes_eq, ◌||◌, Option, Some, None}
use Rattle.toml.specs.Data.{Data, Members, no_members, member, get_member}
use Rattle.job_file.specs.declared.keys.TopKey.{TopKey}
use Rattle.job_file.specs.declared.keys.TopKey.TheVariants.{Format, Ranks, Contexts, Psets, Scripts}

-- what a fault tells of a key: its first 64 bytes
abbrev pub front_of : List ℕ → List ℕ
front_of k = take 64 k

-- the text of a key at the top
abbrev pub name_of : TopKey → List ℕ
name_of Format = codes "format"
name_of Ranks = codes "ranks"
name_of Contexts = codes "contexts"
name_of Psets = codes "psets"
name_of Scripts = codes "scripts"

abbrev pub is_top_key : List ℕ → Bool
is_top_key k = bytes_eq k (name_of Format) || (bytes_eq k (name_of Ranks) || (bytes_eq k (name_of Contexts) || (bytes_eq k (name_of Psets) || bytes_eq k (name_of Scripts))))

-- the value at a key of the top
abbrev pub at : Members → TopKey → Option Data
at ms key = get_member (name_of key) ms

-- the first key, by the order of the keys' bytes, whose entry fails a test
abbrev pub first_failing : (List ℕ → Data → Bool) → Members → Option (List ℕ)
first_failing passes no_members = None
first_failing passes (member k d ms) = if passes k d then first_failing passes ms else Some k
