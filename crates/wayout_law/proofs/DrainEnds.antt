-- The drain of every protocol run ends in a quiet world: while the world is not quiet there is a first choice, and there are no more
-- of them than the bound says.
use Rattle.std.proofs.Common.{◌≡◌, ◌⊎◌, ◌<◌, ◌≤◌, ◌+◌, ℕ, zero, suc, true, List, [], ◌∷◌, ◌++◌, length, refl, sym, subst, ap, ◌∙◌, inl, inr, arith}
use Rattle.std.proofs.lemmas.Bool.Decides.{nat_tests}
use Rattle.mpi_base.specs.declared.entries.Choice.{Choice}
use Rattle.mpi_base.specs.declared.entries.Entry.{Entry}
use Rattle.mpi_law.specs.declared.setting.Setting.{Setting}
use Rattle.mpi_law.specs.ScriptLists.{AllScripts}
use Rattle.mpi_protocol.specs.World.{World, opening, rank_at, may_happen, moved, entry_at}
use Rattle.mpi_protocol.specs.Run.{RunsFrom, IsProtocolRun, world_after, end_of}
use Rattle.mpi_protocol.specs.Order.{IsFirstChoice, IsDrained, IsQuiet}
use Rattle.projection_law.specs.Premises.{SetsAreOfRanks}
use Rattle.projection_law.specs.KnownNames.{NamesAreKnownFrom}
use Rattle.projection_law.proofs.SoundRuns.{runs_follow}
use Rattle.wayout_law.specs.Potential.{bound}
use Rattle.wayout_law.specs.Facts.{DrainEnds, NamesAreKnownInRuns}
use Rattle.wayout_law.proofs.FirstOrQuiet.{first_or_quiet}
use Rattle.wayout_law.proofs.RunLaw.{drains_are_short}

-- Runs that go on

after-append : (w : World) (xs ys : List Entry) → world_after w (xs ++ ys) ≡ world_after (world_after w xs) ys
after-append w [] ys = refl
after-append w (x ∷ xs) ys = after-append (moved w x.choice) xs ys

runs-append : (w : World) (xs ys : List Entry) → RunsFrom w xs → RunsFrom (world_after w xs) ys → RunsFrom w (xs ++ ys)
runs-append w [] ys h k = k
runs-append w (x ∷ xs) ys h k = (h.0, h.1, runs-append (moved w x.choice) xs ys h.2 k)

drained-append : (scripts : AllScripts) (w : World) (xs ys : List Entry) → IsDrained scripts w xs → IsDrained scripts (world_after w xs) ys → IsDrained scripts w (xs ++ ys)
drained-append scripts w [] ys h k = k
drained-append scripts w (x ∷ xs) ys h k = (h.0, drained-append scripts (moved w x.choice) xs ys h.1 k)

known-rest : (w : World) (xs ys : List Entry) → NamesAreKnownFrom w (xs ++ ys) → NamesAreKnownFrom (world_after w xs) ys
known-rest w [] ys h = h
known-rest w (x ∷ xs) ys h = known-rest (moved w x.choice) xs ys h.1

module _ (s : Setting) (scripts : AllScripts) (journal : List Entry) (sets : SetsAreOfRanks s) (known : NamesAreKnownInRuns s) (run : IsProtocolRun s journal) where
  -- what the drain has done so far
  record SoFar (k : ℕ) : Type 0 where
    pub entries : List Entry
    pub runs : RunsFrom (end_of s journal) entries
    pub drained : IsDrained scripts (end_of s journal) entries
    pub long : length entries ≡ k

  whole : (entries : List Entry) → RunsFrom (end_of s journal) entries → IsProtocolRun s (journal ++ entries)
  whole entries runs = runs-append (opening s) journal entries run runs

  short : (entries : List Entry) → RunsFrom (end_of s journal) entries → IsDrained scripts (end_of s journal) entries → length entries ≤ bound scripts (end_of s journal)
  short entries runs drained = drains_are_short s scripts journal entries sets (known journal run) run (known-rest (opening s) journal entries (known (journal ++ entries) (whole entries runs))) drained

  -- the entry of a choice is of the choice
  entry_is : (entries : List Entry) → RunsFrom (end_of s journal) entries → (c : Choice) → may_happen (world_after (end_of s journal) entries) c ≡ true → (entry_at (world_after (end_of s journal) entries) c).choice ≡ c
  entry_is entries runs c may =
      let f = runs_follow s (journal ++ entries) sets (whole entries runs) (known (journal ++ entries) (whole entries runs)) in
      let w = world_after (end_of s journal) entries in
      let lt : c.rank < length w.ranks = grind (arith, nat_tests, may) in
      let there = subst (λ (v : World). (r : ℕ) → r < length v.ranks → (rank_at v r).rank ≡ r) (after-append (opening s) journal entries) f.projected.numbers in
      ap (λ r. record { rank = r; act = c.act }) (there c.rank lt)

  -- one choice more
  more : (k : ℕ) → (d : SoFar k) → (c : Choice) → IsFirstChoice (world_after (end_of s journal) d.entries) scripts c → SoFar (suc k)
  more k d c first =
      let w = world_after (end_of s journal) d.entries in
      let line = entry_at w c in
      let is = entry_is d.entries d.runs c first.may.enabled in
      record {
        entries = d.entries ++ line ∷ [];
        runs = runs-append (end_of s journal) d.entries (line ∷ []) d.runs (subst (λ z. may_happen w z ≡ true) (sym is) first.may.enabled, sym (ap (entry_at w) is), tt);
        drained = drained-append scripts (end_of s journal) d.entries (line ∷ []) d.drained (subst (λ z. IsFirstChoice w scripts z) (sym is) first, tt);
        long = longer d.entries line ∙ ap suc d.long;
      }
    where
      longer : (xs : List Entry) (x : Entry) → length (xs ++ x ∷ []) ≡ suc (length xs)
      longer [] x = refl
      longer (y ∷ xs) x = ap suc (longer xs x)

  goes_on : (left k : ℕ) → left + k ≡ suc (bound scripts (end_of s journal)) → SoFar k → DrainEnds scripts (end_of s journal)
  goes_on zero k e d = let b = short d.entries d.runs d.drained in let l = d.long in absurd (omega (arith, b, l, e))
  goes_on (suc left) k e d = go (first_or_quiet (world_after (end_of s journal) d.entries) scripts) (λ c first. goes_on left (suc k) (omega (arith, e)) (more k d c first))
    where
      go : IsQuiet (world_after (end_of s journal) d.entries) scripts ⊎ ((c : Choice) × IsFirstChoice (world_after (end_of s journal) d.entries) scripts c)
          → ((c : Choice) → IsFirstChoice (world_after (end_of s journal) d.entries) scripts c → DrainEnds scripts (end_of s journal)) → DrainEnds scripts (end_of s journal)
      go (inl quiet) ih = record { entries = d.entries; runs = d.runs; drained = d.drained; quiet = quiet; within = short d.entries d.runs d.drained }
      go (inr f) ih = ih f.0 f.1

  pub drains_end : DrainEnds scripts (end_of s journal)
  drains_end = goes_on (suc (bound scripts (end_of s journal))) 0 (omega arith) (record { entries = []; runs = tt; drained = tt; long = refl })
