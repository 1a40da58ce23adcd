-- `exports::plans::plan_of` meets its contract. Assumes nothing.
use mathlib.Core.Path.{◌≡◌, sym}
use borrow.Author.Rules.{rules}
use Rattle.numbers.specs.Loops.{tab}
use Rattle.exports.specs.Plans.{plan_of, band_from}
use Rattle.exports.proofs.ArrayLaws.{made_by}
use Rattle.exports.proofs.plans.plan_of.Goals.{then-are_matched, else-are_matched}
use Rattle.exports.proofs.plans.plan_of.Goals as goal

pub returns : goal.returns
unfolding plan_of
returns c =
    let e : c.from_fn.result ≡ tab (band_from c.args.kinds.now c.args.numbers.now) 8 0 =
    made_by _ _ (band_from c.args.kinds.now c.args.numbers.now) (λ q i y k. (search rules, search rules)) _ _ c.from_fn.ensures.items in
    rw e
    (elim c.if-are_matched.branch [
      | then-are_matched w ↦ rw (w.count-is, sym w.if-are_matched.ensures)
      | else-are_matched w ↦ rw (w.count-is, sym w.if-are_matched.ensures)
    ])
