-- `exports::intervals::pairs_of` meets its contract. Assumes nothing.
use mathlib.Core.Path.{◌≡◌}
use borrow.Author.Rules.{rules}
use borrow.Author.Tests.{eq-eqb, ne_eqb}
use Rattle.exports.proofs.intervals.pairs_of.Goals.{then-numbers-eq0, else-numbers-eq0}
use Rattle.numbers.specs.Loops.{tab}
use Rattle.exports.specs.Intervals.{pair_from, pairs_of}
use Rattle.exports.proofs.ArrayLaws.{made_by}
use Rattle.exports.proofs.intervals.pairs_of.Goals as goal

pub returns : goal.returns
unfolding pairs_of
returns c =
    let e : c.from_fn.result ≡ tab (pair_from c.args.numbers.now) 8 0 =
    made_by _ _ (pair_from c.args.numbers.now) (λ q i y k. (search rules, search rules)) _ _ c.from_fn.ensures.items in
    rw e
    (elim c.if-numbers-eq0.branch [
      | then-numbers-eq0 w ↦ rw (w.count-is, eq-eqb _ _ w.if-numbers-eq0.true)
      | else-numbers-eq0 w ↦ rw (w.count-is, ne_eqb _ _ w.if-numbers-eq0.false)
    ])
