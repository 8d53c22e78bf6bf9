-- The ranks of a world are those of its setting, and a call's operation is that of its script.
use Rattle.std.proofs.Common.{◌≡◌, ℕ, ◌<◌, ◌≤◌, List, length, Some, ap, sym, ◌∙◌, arith}
use Rattle.mpi_base.specs.declared.ops.Op.{Op}
use Rattle.mpi_law.specs.declared.setting.Setting.{Setting}
use Rattle.mpi_law.specs.ScriptLists.{AllScripts, next_op}
use Rattle.mpi_protocol.specs.Rank.{Rank}

-- a rank of the setting is one of the world
pub in_world : (ranks : List Rank) (s t : Setting) (r : ℕ) → s ≡ t → length ranks ≡ t.ranks → r < s.ranks → r < length ranks
in_world ranks s t r e f l = let g = ap (λ (x : Setting). x.ranks) e in omega (arith, f, g, l)

-- the end of a loop over the setting's ranks
pub all_ranks : (ranks : List Rank) (s t : Setting) (r : ℕ) → s ≡ t → length ranks ≡ t.ranks → s.ranks ≤ r → r ≤ s.ranks → r ≡ length ranks
all_ranks ranks s t r e f l m = let g = ap (λ (x : Setting). x.ranks) e in omega (arith, f, g, l, m)

pub script_op : (scripts : AllScripts) (r t calls counted : ℕ) (op copy : Op) → Some op ≡ next_op scripts r t calls → calls ≡ counted → copy ≡ op → next_op scripts r t counted ≡ Some copy
script_op scripts r t calls counted op copy e f g = ap (next_op scripts r t) (sym f) ∙ (sym e ∙ ap Some (sym g))
