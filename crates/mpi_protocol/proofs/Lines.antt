-- Entries in short, and what choices give one after another.
use Rattle.std.proofs.Common.{◌≡◌, ℕ, Bool, true, false, ◌&&◌, List, [], ◌∷◌, get_or, drop, Option, Some, None, refl, sym, ap}
use Rattle.mpi_base.specs.declared.keys.Key.{Key}
use Rattle.mpi_base.specs.declared.ops.Op.{Op}
use Rattle.mpi_base.specs.declared.messages.Matched.{Matched}
use Rattle.mpi_base.specs.declared.replies.Reply.{Reply}
use Rattle.mpi_base.specs.declared.entries.Act.TheVariants as act
use Rattle.mpi_base.specs.declared.entries.Brief.{Brief}
use Rattle.mpi_base.specs.declared.entries.Said.{Said}
use Rattle.mpi_base.specs.declared.entries.Entry.{Entry}
use Rattle.mpi_protocol.specs.World.{World, may_happen, moved, entry_at}
use Rattle.mpi_protocol.specs.Run.{RunsFrom}

-- the entries that the choices of a journal give, and whether each is enabled when it is made
unfoldable pub entries : World → List Entry → List Entry
entries w [] = []
entries w (e ∷ es) = entry_at w e.choice ∷ entries (moved w e.choice) es

unfoldable pub all_enabled : World → List Entry → Bool
all_enabled w [] = true
all_enabled w (e ∷ es) = may_happen w e.choice && all_enabled (moved w e.choice) es

pub first : (a b : Bool) → (a && b) ≡ true → a ≡ true
first true b h = refl
first false b h = absurd (cc (h))

pub rest : (a b : Bool) → (a && b) ≡ true → b ≡ true
rest true b h = h
rest false b h = absurd (cc (h))

-- a journal whose choices are all enabled and give its entries is a protocol run
pub run_when : (w : World) (es : List Entry) → all_enabled w es ≡ true → entries w es ≡ es → RunsFrom w es
unfolding all_enabled entries
run_when w [] h g = tt
run_when w (e ∷ es) h g = (
  first (may_happen w e.choice) (all_enabled (moved w e.choice) es) h,
  sym (ap (λ (l : List Entry). get_or l 0 e) g),
  run_when (moved w e.choice) es (rest (may_happen w e.choice) (all_enabled (moved w e.choice) es) h) (ap (drop 1) g),
)

-- the world after them
unfoldable pub after : World → List Entry → World
after w [] = w
after w (e ∷ es) = after (moved w e.choice) es

abbrev pub call : ℕ → ℕ → Op → Option Reply → Entry
call r t op said = record { choice = record { rank = r; act = act.Call t op }; brief = None; said = None; matched = None; dropped = None; reply = said }

abbrev pub call_matched : ℕ → ℕ → Op → Matched → Option Reply → Entry
call_matched r t op m said = record { choice = record { rank = r; act = act.Call t op }; brief = None; said = None; matched = Some m; dropped = None; reply = said }

abbrev pub answer : ℕ → ℕ → Reply → Entry
answer r t said = record { choice = record { rank = r; act = act.Answer t }; brief = None; said = None; matched = None; dropped = None; reply = Some said }

abbrev pub deliver : ℕ → ℕ → Brief → Entry
deliver r from b = record { choice = record { rank = r; act = act.Deliver from }; brief = Some b; said = None; matched = None; dropped = None; reply = None }

abbrev pub deliver_matched : ℕ → ℕ → Brief → Matched → Entry
deliver_matched r from b m = record { choice = record { rank = r; act = act.Deliver from }; brief = Some b; said = None; matched = Some m; dropped = None; reply = None }

abbrev pub offer : ℕ → Key → Said → Entry
offer r key s = record { choice = record { rank = r; act = act.Offer key }; brief = None; said = Some s; matched = None; dropped = None; reply = None }

abbrev pub settle : ℕ → Key → Said → Entry
settle r key s = record { choice = record { rank = r; act = act.Settle key }; brief = None; said = Some s; matched = None; dropped = None; reply = None }

abbrev pub leave : ℕ → ℕ → Entry
leave r c = record { choice = record { rank = r; act = act.Leave c }; brief = None; said = None; matched = None; dropped = None; reply = None }

abbrev pub back : ℕ → ℕ → ℕ → Entry
back r c dropped = record { choice = record { rank = r; act = act.Back c }; brief = None; said = None; matched = None; dropped = Some dropped; reply = None }
