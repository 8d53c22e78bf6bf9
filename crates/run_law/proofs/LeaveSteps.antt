-- A rank leaves a communicator: its row goes to another stage, and the registry sees nothing of it.
use Rattle.std.proofs.Common.{◌≡◌, ◌<◌, ℕ, ◌==◌, ◌&&◌, not, if◌then◌else◌, Bool, true, false, List, [], option_map, get_or, set, Option, Some, None, refl, sym, ap, ◌∙◌, arith}
use Rattle.std.specs.Option.{is_some}
use Rattle.std.specs.List.{list_any}
use Rattle.std.proofs.lemmas.Bool.Decides.{nat_tests}
use Rattle.mpi_law.specs.declared.setting.Setting.{Setting}
use Rattle.mpi_law.specs.Registry.State.{Registry, blank_part}
use Rattle.mpi_law.specs.Registry.Contexts.{comm_of}
use Rattle.comm_law.specs.declared.rows.CommRow.{CommRow}
use Rattle.comm_law.specs.declared.rows.CommStage.{CommStage}
use Rattle.comm_law.specs.declared.rows.CommStage.TheVariants.{Live, Freed, Left}
use Rattle.comm_law.specs.Comms.{Comms as Known, with_stage, is_freed, is_freed_row, leave}
use Rattle.mpi_protocol.specs.Rank.{Rank}
use Rattle.mpi_protocol.specs.Step.{may_leave, leaves}
use Rattle.run_law.proofs.Lists.{tally}
use Rattle.run_law.proofs.Rows.{row_in}
use Rattle.due_law.specs.Dues.{Dues}
use Rattle.run_law.proofs.Creations.{comm_in}
use Rattle.run_law.proofs.Comms.{is_live, KnownComm, CommFits, CommsFit, is_numbered}
use Rattle.run_law.proofs.Joined.{rank_in, Joined}
use Rattle.run_law.proofs.CountedRows.{row_ctx}
use Rattle.run_law.proofs.Taking.{locals-known}
use Rattle.run_law.proofs.Freed.{Freed as Changed}
use Rattle.run_law.proofs.StagedRows.{staged_row, row_staged, any_staged, serials_staged, left_is}
use Rattle.run_law.proofs.FreedSteps.{freed_joined}
use Rattle.run_law.proofs.SettleSteps.{Goes}

module _ (s : Setting) (ranks : List Rank) (due : Dues) (g : Registry) (r c : ℕ) (j : Joined s ranks due g) (lt : r < s.ranks) (may : may_leave (rank_in ranks r) c ≡ true) where
  abbrev x : Rank
  x = rank_in ranks r

  abbrev known : Known
  known = leave x.comms c

  abbrev of_it : CommRow → Bool
  of_it z = z.ctx == c

  abbrev at_left : CommStage → CommStage
  at_left st = Left

  rows_are : (d : ℕ) → row_in known.rows d ≡ option_map (staged_row at_left of_it) (row_in x.comms.rows d)
  rows_are d = ap (λ (ms : List CommRow). row_in ms d) (left_is x.comms c) ∙ row_staged at_left x.comms.rows of_it d

  same : (d : ℕ) → is_some (row_in known.rows d) ≡ is_some (row_in x.comms.rows d)
  same d = rw (rows_are d) (go (row_in x.comms.rows d))
    where
      go : (o : Option CommRow) → is_some (option_map (staged_row at_left of_it) o) ≡ is_some o
      go None = refl
      go (Some z) = refl

  -- the row of its context was freed
  was_freed : (m : CommRow) → row_in x.comms.rows c ≡ Some m → is_freed m.stage ≡ true
  was_freed m e = let f : is_freed_row (row_in x.comms.rows c) ≡ true = grind (arith, may) in rw e at f

  known_left : (d p : ℕ) (m : CommRow) → row_in x.comms.rows d ≡ Some m → KnownComm g.comms g.creations r m p → KnownComm g.comms g.creations r (staged_row at_left of_it m) p
  unfolding staged_row
  known_left d p m e k = go (m.ctx == c) refl
    where
      dead : (st : CommStage) → is_freed st ≡ true → is_live Left ≡ is_live st
      dead Live f = absurd (cc (f))
      dead Freed f = refl
      dead Left f = absurd (cc (f))

      go : (b : Bool) → (m.ctx == c) ≡ b → KnownComm g.comms g.creations r (if b then with_stage Left m else m) p
      go false f = k
      go true f =
          let ctx = row_ctx x.comms.rows d m e in
          let is : d ≡ c = sym ctx ∙ grind (arith, nat_tests, f) in
          let here : row_in x.comms.rows c ≡ Some m = ap (λ (i : ℕ). row_in x.comms.rows i) (sym is) ∙ e in
          record { members = k.members; session = k.session; calls = k.calls; stage = dead m.stage (was_freed m here) ∙ k.stage }

  -- serials and contexts stay
  numbers : (P : ℕ → ℕ → Bool) → list_any (λ (y : CommRow). P y.serial y.ctx) known.rows ≡ list_any (λ (y : CommRow). P y.serial y.ctx) x.comms.rows
  numbers P = ap (λ (ms : List CommRow). list_any (λ (y : CommRow). P y.serial y.ctx) ms) (left_is x.comms c) ∙ any_staged at_left x.comms.rows of_it P

  comms_here : CommsFit s.contexts g.comms g.creations (get_or g.ranks r blank_part).threads r known.rows known.added x.agree.owner (due r) x.threads
  comms_here =
      record {
        each = λ d. rw (rows_are d) (each d (row_in x.comms.rows d) refl (comm_of g.comms r d) (old.each d));
        range = old.range;
        freeing = λ u i q fw fp. (let k = old.freeing u i q fw fp in record { inside = k.inside; below = k.below; member = k.member; own = numbers (λ n b. (n == i) && not (b == (comm_in g.comms q).ctx)) ∙ k.own; gone = numbers (λ n b. n == i) ∙ k.gone });
        serials = λ n. (let a = serials_staged at_left x.comms.rows of_it n in let o = old.serials n in let e = ap (λ (ms : List CommRow). tally (is_numbered n) ms) (left_is x.comms c) in omega (arith, a, o, e));
      }
    where
      old : CommsFit s.contexts g.comms g.creations (get_or g.ranks r blank_part).threads r x.comms.rows x.comms.added x.agree.owner (due r) x.threads
      old = j.comms r

      each : (d : ℕ) (o : Option CommRow) → row_in x.comms.rows d ≡ o → (q : Option ℕ) → CommFits g.comms g.creations r x.agree.owner (due r) d o q → CommFits g.comms g.creations r x.agree.owner (due r) d (option_map (staged_row at_left of_it) o) q
      each d None eo None k = tt
      each d (Some y) eo None k = k
      each d None eo (Some q) k = k
      each d (Some y) eo (Some q) k = known_left d q y eo k

  -- no communicator changes in the registry
  unchanged : Changed g.comms g.comms r (λ p. false)
  unchanged = record { long = refl; row = λ p. refl }

  -- a leave has no event
  pub leave_goes : Goes s g [] (set ranks r (leaves x c).state) due
  unfolding leaves
  leave_goes = (
    tt,
    freed_joined s ranks due g r g.comms (λ p. false) unchanged x known j lt refl same (locals-known g.comms x.comms.rows known.rows r x.local _ (λ b e. same b ∙ e) (j.locals r)) (λ u k to from i p fw fp e hits. absurd (cc (hits))) comms_here,
  )
