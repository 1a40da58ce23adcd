-- `colleague::balance::scale_by` meets its contract. Assumes nothing.
use borrow.Author.Tests.{eq-eqb, ne_eqb}
use Rattle.numbers.proofs.LoopLaws.{next, end}
use Rattle.colleague.proofs.balance.scale_by.Goals as goal
use Rattle.colleague.proofs.balance.scale_by.Goals.{then-k-j, else-k-j}

pub loop-k-preserved : goal.loop-k-preserved
loop-k-preserved c =
    let v = c.loop-k.invariant in (
      v.0,
      next v.1 c.loop-k-test.true
          (elim c.if-k-j.branch [ then-k-j w ↦ rw (ne_eqb _ _ w.if-k-j.true, ← v.0) w.a-is | else-k-j w ↦ rw (eq-eqb _ _ w.if-k-j.false) w.a-is ]),
    )

pub returns : goal.returns
returns c = end c.loop-k.invariant.1 c.loop-k-test.false
