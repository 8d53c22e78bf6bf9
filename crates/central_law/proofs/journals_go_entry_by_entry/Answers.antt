use Rattle.central_law.proofs.Entries.{journal_runs, journal_leads}
use Rattle.central_law.proofs.journals_go_entry_by_entry.Goals as goal

pub returns-clause-runs : goal.returns-clause-runs
returns-clause-runs c = λ s g journal e. journal_runs s g journal e

pub returns-clause-after : goal.returns-clause-after
returns-clause-after c = λ s g journal e. journal_leads s g journal e
