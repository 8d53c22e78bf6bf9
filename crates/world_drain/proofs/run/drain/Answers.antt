use Rattle.std.proofs.Common.{◌+◌, ◌≤◌, length}
use Rattle.wayout_law.specs.Potential.{bound}
use Rattle.world_drain.proofs.Going.{IsGoing, going_next}
use Rattle.world_drain.proofs.Short.{short, fewer_left, one_longer}
use Rattle.world_drain.proofs.run.drain.Given as given
use Rattle.world_drain.proofs.run.drain.Goals as goal

-- the step just made goes on from where the drain was
module _ (g : given.Over) (c : goal.After-journal-in-Some g) where
  going : IsGoing c.args.scripts.now c.args.world.now c.step.new.self
  going =
      let room = c.reserve_step.ensures in
      let step = c.step.ensures in
      going_next c.args.scripts.now c.args.world.now c.loop-choice.world c.reserve_step.new.self c.step.new.self c.in-Some.choice c.loop-choice.invariant.going c.in-Some.ensures.found room.setting room.world room.entries step.setting step.world step.entries step.choice

  within : length c.step.new.self.entries ≤ length c.args.world.now.entries + bound c.args.scripts.now c.args.world.now.world
  within =
      short c.callers_names_are_known.ensures c.drains_are_short.ensures c.args.scripts.now c.args.world.now c.step.new.self going c.requires.sets c.journal.ensures.run c.journal.ensures.end c.journal-in-Some.ensures.run

pub loop-choice-smaller : goal.loop-choice-smaller
loop-choice-smaller g c =
    fewer_left (length c.args.world.now.entries + bound c.args.scripts.now c.args.world.now.world) (length c.loop-choice.world.entries) (length c.step.new.self.entries)
    (one_longer c.loop-choice.world.entries c.reserve_step.new.self.entries c.step.new.self.entries _ c.reserve_step.ensures.entries c.step.ensures.entries) (within g c)

pub loop-choice-preserved : goal.loop-choice-preserved
loop-choice-preserved g c = record { going = going g c; short = within g c }
