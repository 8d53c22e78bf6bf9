use Rattle.std.proofs.Common.{refl}
use Rattle.entry_text.specs.Grammar.{key, settled}
use Rattle.entry_text.proofs.Takes.{row_none}
use Rattle.entry_text.proofs.Rows.{no_kind}
use Rattle.entry_text.proofs.keys.read_kind.Goals as goal

pub returns-in_default : goal.returns-in_default
returns-in_default c = let n = no_kind _ c.in_default.not-From c.in_default.not-Group c.in_default.not-Dup c.in_default.not-Split c.in_default.not-Share in (row_none key _ _ _ c.in_ok-word.ensures (rw n refl), row_none settled _ _ _ c.in_ok-word.ensures (rw n refl))
