-- Bytes and their lines, and lines and what they spell, as examples.
use Rattle.std.proofs.Common.{◌≡◌, [], ◌∷◌, codes, refl}
use Rattle.job_file.specs.Lines.{lines_of, Spell}

-- the last line feed may be missing
no_bytes : lines_of [] ≡ []
no_bytes = refl

open_end : lines_of (codes "a\nb") ≡ codes "a" ∷ codes "b" ∷ []
open_end = refl

closed_end : lines_of (codes "a\nb\n") ≡ codes "a" ∷ codes "b" ∷ []
closed_end = refl

-- a line feed alone ends a line without bytes
one_feed : lines_of (codes "\n") ≡ [] ∷ []
one_feed = refl

two_feeds : lines_of (codes "a\n\nb") ≡ codes "a" ∷ [] ∷ codes "b" ∷ []
two_feeds = refl

-- lines without bytes spell nothing
blank_lines : Spell ([] ∷ [] ∷ []) []
blank_lines = tt
