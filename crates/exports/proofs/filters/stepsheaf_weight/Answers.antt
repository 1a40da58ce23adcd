-- `exports::filters::stepsheaf_weight` meets its contract. Assumes nothing.
use Rattle.bands.specs.Lookup.{weight_at}
use Rattle.exports.specs.Plans.{weight_for}
use Rattle.exports.proofs.AnswerLaws.{numbered}
use Rattle.exports.proofs.filters.stepsheaf_weight.Goals as goal

pub returns : goal.returns
unfolding weight_for
returns c =
    let e = c.looked_up-value.ensures (weight_at c.plan_of.result c.args.f) (λ r k. k.1) in
    numbered c.told.ensures (rw (e, c.plan_of.ensures) at c.put.ensures)
