-- What a call sends or posts, told by what its operation does, and the registry that a match of the same entry sees.
use Rattle.std.specs.Prelude.{ℕ, Bool, false, if◌then◌else◌, List, [], ◌∷◌, ◌++◌, Option, Some, None}
use Rattle.mpi_law.specs.declared.effects.Effect.{Effect}
use Rattle.mpi_law.specs.declared.effects.Effect.TheVariants as effect
use Rattle.mpi_law.specs.Registry.State.{Registry, Message, Receive}
use Rattle.mpi_law.specs.Registry.Calls.{message_of_call, receive_of_call}
use Rattle.mpi_law.specs.Registry.Events.{Event, Sends, Posts}

-- the events within a call that does this
abbrev pub within : ℕ → ℕ → Effect ℕ → List Event
within r t (effect.Says said) = []
within r t (effect.Opens target) = []
within r t (effect.Groups target members session) = []
within r t (effect.Ungroups name) = []
within r t (effect.Joins a) = []
within r t (effect.Frees name p) = []
within r t (effect.Ends name session) = []
within r t (effect.Sends m) = Sends r t ∷ []
within r t (effect.Receives x) = Posts r t ∷ []
within r t (effect.Posts target x) = Posts r t ∷ []
within r t (effect.NullPosts target) = []
within r t (effect.Completes name number) = []
within r t (effect.Awaits name) = []

-- the message that the call sends, the receive that it posts
abbrev pub sent_within : Registry → ℕ → Effect ℕ → Option Message
sent_within g r (effect.Says said) = None
sent_within g r (effect.Opens target) = None
sent_within g r (effect.Groups target members session) = None
sent_within g r (effect.Ungroups name) = None
sent_within g r (effect.Joins a) = None
sent_within g r (effect.Frees name p) = None
sent_within g r (effect.Ends name session) = None
sent_within g r (effect.Sends m) = Some (message_of_call g r m)
sent_within g r (effect.Receives x) = None
sent_within g r (effect.Posts target x) = None
sent_within g r (effect.NullPosts target) = None
sent_within g r (effect.Completes name number) = None
sent_within g r (effect.Awaits name) = None

abbrev pub posted_within : Registry → ℕ → Effect ℕ → Option Receive
posted_within g r (effect.Says said) = None
posted_within g r (effect.Opens target) = None
posted_within g r (effect.Groups target members session) = None
posted_within g r (effect.Ungroups name) = None
posted_within g r (effect.Joins a) = None
posted_within g r (effect.Frees name p) = None
posted_within g r (effect.Ends name session) = None
posted_within g r (effect.Sends m) = None
posted_within g r (effect.Receives x) = Some (receive_of_call g r x)
posted_within g r (effect.Posts target x) = Some (receive_of_call g r x)
posted_within g r (effect.NullPosts target) = None
posted_within g r (effect.Completes name number) = None
posted_within g r (effect.Awaits name) = None

-- a list with one item more, where there is one
abbrev pub with_last : {A : Type 0} → List A → Option A → List A
with_last xs None = xs
with_last xs (Some x) = xs ++ x ∷ []

-- the registry before the call, with its message or its receive: a match of the call's entry is tested here
abbrev pub posted_state : Registry → ℕ → Effect ℕ → Registry
posted_state g r e = record g { messages = with_last g.messages (sent_within g r e); receives = with_last g.receives (posted_within g r e) }

-- of one item more, whether it passes a test, and the item where it does
abbrev pub last_passes : {A : Type 0} → (A → Bool) → Option A → Bool
last_passes p None = false
last_passes p (Some x) = p x

abbrev pub last_if : {A : Type 0} → (A → Bool) → Option A → Option A
last_if p None = None
last_if p (Some x) = if p x then Some x else None
