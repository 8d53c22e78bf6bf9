-- The drain is short: what it has made so far is within the bound of the world in which it began.
use Rattle.std.proofs.Common.{◌≡◌, ◌≤◌, ◌<◌, ◌+◌, ◌-◌, ℕ, List, [], ◌∷◌, ◌++◌, length, length-append, sym, ap, ◌∙◌, subst, arith}
use Rattle.mpi_base.specs.declared.entries.Entry.{Entry}
use Rattle.mpi_law.specs.declared.setting.Setting.{Setting}
use Rattle.mpi_law.specs.ScriptLists.{AllScripts}
use Rattle.mpi_protocol.specs.World.{World, opening, moved}
use Rattle.mpi_protocol.specs.Order.{IsDrained}
use Rattle.mpi_protocol.specs.Run.{IsProtocolRun, end_of, world_after}
use Rattle.projection_law.specs.Premises.{SetsAreOfRanks}
use Rattle.projection_law.specs.KnownNames.{NamesAreKnownFrom, CallersNamesAreKnown}
use Rattle.wayout_law.specs.Facts.{IsWithinBound}
use Rattle.wayout_law.specs.Potential.{bound}
use Rattle.world_core.specs.Held.{Held}
use Rattle.world_drain.proofs.Going.{IsGoing}

-- what is known to callers in a journal is so in each part of it
names_front : (w : World) (xs ys : List Entry) → NamesAreKnownFrom w (xs ++ ys) → NamesAreKnownFrom w xs
names_front w [] ys k = tt
names_front w (x ∷ xs) ys k = (k.0, names_front (moved w x.choice) xs ys k.1)

names_behind : (w : World) (xs ys : List Entry) → NamesAreKnownFrom w (xs ++ ys) → NamesAreKnownFrom (world_after w xs) ys
names_behind w [] ys k = k
names_behind w (x ∷ xs) ys k = names_behind (moved w x.choice) xs ys k.1

-- the law of the names, and that of the bound
abbrev pub NamesLaw : Type 0
NamesLaw = (s : Setting) (journal : List Entry) → SetsAreOfRanks s → IsProtocolRun s journal → CallersNamesAreKnown s journal

abbrev pub ShortLaw : Type 0
ShortLaw = (s : Setting) (scripts : AllScripts) (journal drained : List Entry) → SetsAreOfRanks s → CallersNamesAreKnown s journal → IsProtocolRun s journal
    → NamesAreKnownFrom (end_of s journal) drained → IsDrained scripts (end_of s journal) drained → IsWithinBound scripts (end_of s journal) drained

pub short : NamesLaw → ShortLaw → (scripts : AllScripts) (old now : Held) → IsGoing scripts old now → SetsAreOfRanks old.setting → IsProtocolRun old.setting old.entries → old.world ≡ end_of old.setting old.entries
    → IsProtocolRun now.setting now.entries → length now.entries ≤ length old.entries + bound scripts old.world
short names law scripts old now i sets run end runs =
    let s = old.setting in
    let more = i.goes.more in
    let all : IsProtocolRun s (old.entries ++ more) = subst (IsProtocolRun s) i.goes.entries (subst (λ (z : Setting). IsProtocolRun z now.entries) i.setting runs) in
    let known = names s (old.entries ++ more) sets all in
    let behind = names_behind (opening s) old.entries more known in
    let drained : IsDrained scripts (end_of s old.entries) more = subst (λ (w : World). IsDrained scripts w more) end i.goes.drained in
    let within : length more ≤ bound scripts (end_of s old.entries) = law s scripts old.entries more sets (names s old.entries sets run) run behind drained in
    let within_old : length more ≤ bound scripts old.world = subst (λ (w : World). length more ≤ bound scripts w) (sym end) within in
    let long : length now.entries ≡ length old.entries + length more = ap (λ (es : List Entry). length es) i.goes.entries ∙ length-append old.entries more in
    omega (arith, long, within_old)

-- with one entry more, fewer may still come
pub fewer_left : (total now new : ℕ) → new ≡ now + 1 → new ≤ total → total - new < total - now
fewer_left total now new e l = omega (arith, e, l)

pub one_longer : (now ready next : List Entry) (e : Entry) → ready ≡ now → next ≡ ready ++ e ∷ [] → length next ≡ length now + 1
one_longer now ready next e same more = ap (λ (es : List Entry). length es) more ∙ length-append ready (e ∷ []) ∙ ap (λ (es : List Entry). length es + 1) same
