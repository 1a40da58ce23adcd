-- `exchange::job::Job::loaded` meets its contract. Assumes nothing.
use mathlib.Core.Path.{sym, ◌∙◌}
use Rattle.exchange.proofs.JobLaws.{no_job, disagreeing, agreeing}
use Rattle.exchange.proofs.job.Job.loaded.Goals as goal

pub returns-in-Ok-clause-outcome : goal.returns-in-Ok-clause-outcome
returns-in-Ok-clause-outcome c = agreeing _ c.in-Ok.ensures (sym c.does_agree.ensures ∙ c.if-does_agree.true)

pub returns-in_default-clause-outcome : goal.returns-in_default-clause-outcome
returns-in_default-clause-outcome c = disagreeing _ c.in-Ok.ensures (sym c.does_agree.ensures ∙ c.if-does_agree.false)

pub returns-in_default-2-clause-outcome : goal.returns-in_default-2-clause-outcome
returns-in_default-2-clause-outcome c = no_job _ c.in_default.ensures
