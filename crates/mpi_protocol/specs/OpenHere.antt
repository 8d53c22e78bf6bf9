-- Whether a creation is open at a rank: words of the code and of facts.
use Rattle.std.specs.Prelude.{ℕ, ◌==◌, Bool}
use Rattle.mpi_base.specs.declared.keys.Key.{Key}
use Rattle.mpi_base.specs.Keys.{same_key}
use Rattle.mpi_protocol.specs.Rank.{Rank, has_open}

-- a creation of this key is open here, one under the communicator with this context, one of this session
abbrev pub is_open_here : Rank → Key → Bool
is_open_here x key = has_open x.threads (λ k session. same_key k key)

abbrev pub has_open_of : Rank → ℕ → Bool
has_open_of x s = has_open x.threads (λ k session. session == s)
