use Rattle.registry_replay.proofs.Journals.{same_job, same_drain}
use Rattle.registry_replay.proofs.replay.replay_generated.Goals as goal

pub returns-clause-drained : goal.returns-clause-drained
returns-clause-drained c =
    (_, same_job _ _ _ _ c.in_ok-setting.ensures.job, same_drain _ _ _ _ c.in_ok-setting.ensures.job _ c.in_ok-journal.ensures.drained)
