use Rattle.std.proofs.Common.{◌∙◌}
use Rattle.registry_replay.proofs.replay.asked.Goals as goal

pub returns-clause-all : goal.returns-clause-all
returns-clause-all c = c.in_ok-all.ensures.run.1 (rw (c.in_ok-registry.ensures.setting, c.in_ok-registry.ensures.opening) c.requires.run)

pub returns-clause-closed : goal.returns-clause-closed
returns-clause-closed c =
    let every = c.in_ok-all.ensures.run.1 (rw (c.in_ok-registry.ensures.setting, c.in_ok-registry.ensures.opening) c.requires.run) in
    c.closed-closed.ensures ∙ rw (c.try_steps.ensures.setting, c.in_ok-all.ensures.state every, c.in_ok-registry.ensures.setting, c.in_ok-registry.ensures.opening) c.requires.done
