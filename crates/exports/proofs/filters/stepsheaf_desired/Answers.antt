-- `exports::filters::stepsheaf_desired` meets its contract. Assumes nothing.
use Rattle.bands.specs.Lookup.{desired_at}
use Rattle.exports.specs.Plans.{desired_for}
use Rattle.exports.proofs.AnswerLaws.{numbered}
use Rattle.exports.proofs.filters.stepsheaf_desired.Goals as goal

pub returns : goal.returns
unfolding desired_for
returns c =
    let e = c.looked_up-value.ensures (desired_at c.plan_of.result c.args.f) (λ r k. k.1) in
    numbered c.told.ensures (rw (e, c.plan_of.ensures) at c.put.ensures)
