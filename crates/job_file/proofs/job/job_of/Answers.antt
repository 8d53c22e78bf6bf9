use Rattle.toml.specs.View.{table_view}
use Rattle.job_file.proofs.Faultless.{good_table}
use Rattle.job_file.proofs.job.job_of.Goals as goal

pub sets-requires-clause-good : goal.sets-requires-clause-good
sets-requires-clause-good c = rw (c.ranks-ranks.ensures.value, c.table_at-2.ensures) (good_table (table_view c.args.table.now) c.requires).sets

pub scripts-requires-clause-good : goal.scripts-requires-clause-good
scripts-requires-clause-good c = rw (c.ranks-ranks.ensures.value, c.table_at-3.ensures) (good_table (table_view c.args.table.now) c.requires).scripts
