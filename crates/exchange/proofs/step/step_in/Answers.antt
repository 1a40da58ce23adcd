-- `exchange::step::step_in` meets its contract. Assumes nothing.
use mathlib.Core.Path.{ap, ◌∙◌}
use Rattle.exchange.specs.Job.{held_of, standing_of}
use Rattle.exchange.proofs.StepLaws.{runnable, step_runs}
use Rattle.exchange.proofs.step.step_in.Goals as goal

pub run-requires : goal.run-requires
run-requires c =
    let points = c.loaded.ensures.points in
    let r = runnable (held_of c.args.job.now) _ c.requires _ c.in_ok-i.ensures.outcome points in
    (c.requires, r.0, r.1, r.2)

pub returns-in-Running : goal.returns-in-Running
returns-in-Running c =
    let points = c.loaded.ensures.points in
    c.run.ensures ∙ step_runs _ _ c.requires _ c.in_ok-i.ensures.outcome points (ap standing_of c.in-Running.is)
