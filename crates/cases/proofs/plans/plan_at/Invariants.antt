use Rattle.std.proofs.Common.{◌≡◌}
use Rattle.cases.specs.Plans.{plan_at}
use Rattle.cases.proofs.PlanLaws.{Planning}
use Rattle.cases.proofs.plans.plan_at.Given as goal

abbrev pub invariant-loop-i : goal.invariant-loop-i
invariant-loop-i l = (l.plan.count ≡ l.count) × Planning l.s l.count l.i l.from l.good l.plan.bands (plan_at l.s l.at l.count)
