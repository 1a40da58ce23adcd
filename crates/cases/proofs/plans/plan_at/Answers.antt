-- `cases::plans::plan_at` meets its contract. Assumes nothing.
use Rattle.cases.proofs.PlanLaws.{plan_next, plan_end}
use Rattle.cases.proofs.plans.plan_at.Goals as goal

pub loop-i-preserved : goal.loop-i-preserved
loop-i-preserved c =
    let read = c.band_at-read.ensures in
    (c.loop-i.invariant.0, rw (c.read_in-b.ensures, c.is_ok-good.ensures.value, read) (plan_next c.loop-i.invariant.1 c.loop-i-test.true))

pub returns-then-good : goal.returns-then-good
returns-then-good c = plan_end c.loop-i.invariant.1 c.loop-i.invariant.0 c.if-good.true c.loop-i-test.false

pub returns-else-good : goal.returns-else-good
returns-else-good c = plan_end c.loop-i.invariant.1 c.loop-i.invariant.0 c.if-good.false c.loop-i-test.false
