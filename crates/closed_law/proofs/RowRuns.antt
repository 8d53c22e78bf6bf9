-- The rows of each rank have different contexts in the world of every protocol run.
use Rattle.std.proofs.Common.{◌≡◌, ◌<◌, ℕ, true, false, List, [], ◌∷◌, ◌++◌, length, get_or, Option, Some, None, refl, subst, arith}
use Rattle.std.specs.Option.{is_none}
use Rattle.std.proofs.lemmas.Bool.Decides.{nat_tests}
use Rattle.mpi_base.specs.declared.entries.Act.{Act}
use Rattle.mpi_base.specs.declared.entries.Act.TheVariants.{Call, Answer, Deliver, Offer as MakeOffer, Settle, Leave, Back}
use Rattle.mpi_base.specs.declared.entries.Choice.{Choice}
use Rattle.mpi_base.specs.declared.entries.Entry.{Entry}
use Rattle.mpi_law.specs.declared.setting.Setting.{Setting}
use Rattle.mpi_law.specs.Registry.State.{Registry, registry_opening}
use Rattle.mpi_law.specs.Registry.Runs.{registry_after}
use Rattle.agree_law.specs.Moves.{may_settle}
use Rattle.agree_law.specs.World as agreement
use Rattle.agree_law.specs.World.{Event, run}
use Rattle.agree_law.specs.declared.rows.Verdict.{Verdict}
use Rattle.agree_law.specs.declared.rows.Verdict.TheVariants.{Context}
use Rattle.comm_law.specs.declared.rows.CommRow.{CommRow}
use Rattle.mpi_protocol.specs.Rank.{Rank}
use Rattle.mpi_protocol.specs.Step.{is_enabled}
use Rattle.mpi_protocol.specs.World.{World, opening, rank_at, head_for, has_packet, may_happen, moved, entry_at}
use Rattle.mpi_protocol.specs.Run.{RunsFrom, IsProtocolRun, world_after, end_of, entry_events}
use Rattle.projection_law.specs.Facts.{MaySettle}
use Rattle.projection_law.specs.Premises.{SetsAreOfRanks}
use Rattle.projection_law.specs.Events.{events_at}
use Rattle.due_law.specs.Dues.{Dues, none_due}
use Rattle.due_law.specs.Agreed.{SaysFinds}
use Rattle.due_law.specs.Runs.{dues_chosen}
use Rattle.due_law.proofs.Finds.{due_is_free, says_finds, downs_find}
use Rattle.due_law.proofs.RunFinds.{belongs}
use Rattle.run_law.proofs.Rows.{row_in}
use Rattle.run_law.proofs.Joined.{rank_in}
use Rattle.run_law.proofs.OneRank.{each_rank}
use Rattle.run_law.proofs.Opening.{each_fresh}
use Rattle.run_law.proofs.Calling.{moved_ranks}
use Rattle.registry_law.proofs.Together.{Together, together_opening}
use Rattle.registry_law.proofs.Steps.{step_goes}
use Rattle.closed_law.proofs.Rows.{Differ, ActIsFree, differ_step}

abbrev pub AllDiffer : List Rank → Type 0
AllDiffer ranks = (r : ℕ) → Differ (rank_in ranks r).comms.rows

module _ (s : Setting) (w : World) (es : List Event) (due : Dues) (g : Registry) (z : Together s w es due g) (r : ℕ) (lt : r < s.ranks) where
  abbrev x : Rank
  x = rank_at w r

  lr : r < length w.ranks
  lr = let n = z.joined.sizes.ranks_are in omega (arith, n, lt)

  -- a context that is free in the mask has no row
  free_none : (c : ℕ) → get_or x.agree.mask c false ≡ true → row_in x.comms.rows c ≡ None
  free_none c e = go (row_in x.comms.rows c) refl (let b = (z.joined.masks r lt).bits c in grind (arith, b, e))
    where
      go : (o : Option CommRow) → row_in x.comms.rows c ≡ o → is_none (row_in x.comms.rows c) ≡ true → row_in x.comms.rows c ≡ None
      go None f n = f
      go (Some m) f n = absurd (let y = rw f at n in cc (y))

  act_free : (act : Act) → has_packet w r act ≡ true → is_enabled x act ≡ true → ActIsFree x act (head_for w r act)
  unfolding is_enabled may_settle
  act_free (Call t op) there can = tt
  act_free (Answer t) there can = tt
  act_free (MakeOffer key) there can = tt
  act_free (Leave c) there can = tt
  act_free (Back c) there can = tt
  act_free (Deliver from) there can = λ key i c head.
      let b = belongs s w es due z.follows.projected z.dues in
      let a = run s.contexts es (agreement.opening s.ranks s.contexts) in
      let f = downs_find s w a due b r from key i (Context c) lr (grind (arith, nat_tests, there)) head in
      free_none c (due_is_free s w a due b r key c f.finds.said)
  act_free (Settle key) there can = λ other c e.
      let b = belongs s w es due z.follows.projected z.dues in
      let a = run s.contexts es (agreement.opening s.ranks s.contexts) in
      let m : MaySettle w r key = record { inside = lr; may = grind (arith, can, other) } in
      let f = says_finds s w a due b r key m in
      let found : SaysFinds s w.ranks due r key (Context c) = subst (λ (v : Verdict). SaysFinds s w.ranks due r key v) e f.finds in
      free_none c (found.free r f.member)

module _ (s : Setting) (sets : SetsAreOfRanks s) where
  step_differs : (w : World) (es : List Event) (due : Dues) (g : Registry) → Together s w es due g → (c : Choice) → may_happen w c ≡ true → AllDiffer w.ranks → AllDiffer (moved w c).ranks
  step_differs w es due g z c may h =
      let n = z.joined.sizes.ranks_are in
      let lr : c.rank < length w.ranks = grind (arith, nat_tests, may) in
      let lt : c.rank < s.ranks = omega (arith, n, lr) in
      let there : has_packet w c.rank c.act ≡ true = grind (arith, may) in
      let can : is_enabled (rank_at w c.rank) c.act ≡ true = grind (arith, may) in
      let free = act_free s w es due g z c.rank lt c.act there can in
      rw (moved_ranks w c) (each_rank (λ q x. Differ x.comms.rows) w.ranks c.rank _ lr (differ_step (rank_at w c.rank) c.act (head_for w c.rank c.act) free (h c.rank)) (λ q ne. h q))

  run_differs : (w : World) (es : List Event) (due : Dues) (g : Registry) (journal : List Entry) → Together s w es due g → RunsFrom w journal → AllDiffer w.ranks → AllDiffer (world_after w journal).ranks
  run_differs w es due g [] z run h = h
  run_differs w es due g (e ∷ rest) z run h =
      let step = step_goes s sets w es due g z e.choice run.0 in
      run_differs (moved w e.choice) (es ++ events_at w e.choice.rank e.choice.act) (dues_chosen w due e.choice) (registry_after s g (entry_events (entry_at w e.choice))) rest step.together run.2
      (step_differs w es due g z e.choice run.0 h)

  pub rows_differ : (journal : List Entry) → IsProtocolRun s journal → AllDiffer (end_of s journal).ranks
  rows_differ journal run = run_differs (opening s) [] none_due (registry_opening s) journal (together_opening s) run (each_fresh s (λ x. Differ x.comms.rows) (λ y q c. omega arith))
