-- What offers and settles say, as a line shows it.
use Rattle.std.specs.Prelude.{◌≡◌, ℕ, ◌≤◌, Bool, true, false, List, [], ◌∷◌, codes}
use Rattle.mpi_base.specs.declared.keys.Kind.{Kind}
use Rattle.mpi_base.specs.declared.keys.Kind.TheVariants as kind
use Rattle.mpi_base.specs.declared.entries.Said.{Said}
use Rattle.mpi_base.specs.declared.entries.Said.TheVariants.{Own, Zero, Ready, Retry, Picked, Exhausted, Shared}
use Rattle.entry_text.specs.Labels.{most_16, labelled_text}

-- the tokens of what is said
abbrev pub said_tokens : Said → List (List ℕ)
said_tokens Own = codes "own" ∷ []
said_tokens Zero = codes "zero" ∷ []
said_tokens Ready = codes "ready" ∷ []
said_tokens Retry = codes "retry" ∷ []
said_tokens (Picked c) = codes "pick" ∷ labelled_text (codes "ctx=") c ∷ []
said_tokens Exhausted = codes "pick" ∷ codes "exhausted" ∷ []
said_tokens Shared = codes "shared" ∷ []

-- an offer owns the mask, or carries no context
abbrev pub IsOffered : Said → Type 0
IsOffered Own = Unit {0}
IsOffered Zero = Unit {0}
IsOffered Ready = ⊥
IsOffered Retry = ⊥
IsOffered (Picked c) = ⊥
IsOffered Exhausted = ⊥
IsOffered Shared = ⊥

-- what is said of a key that is no exchange
abbrev pub IsVerdict : Said → Type 0
IsVerdict Own = ⊥
IsVerdict Zero = ⊥
IsVerdict Ready = Unit {0}
IsVerdict Retry = Unit {0}
IsVerdict (Picked c) = c ≤ most_16
IsVerdict Exhausted = Unit {0}
IsVerdict Shared = ⊥

-- an exchange is shared, and a key of another kind gets a verdict
abbrev pub IsSettled : Kind → Said → Type 0
IsSettled kind.From s = IsVerdict s
IsSettled kind.Group s = IsVerdict s
IsSettled kind.Dup s = IsVerdict s
IsSettled kind.Split s = IsVerdict s
IsSettled kind.Share s = s ≡ Shared

-- whether an offer owns the mask
abbrev pub owning_said : Bool → Said
owning_said true = Own
owning_said false = Zero
