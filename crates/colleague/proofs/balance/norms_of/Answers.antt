-- `colleague::balance::norms_of` meets its contract. Assumes nothing.
use borrow.Author.Tests.{eq-eqb, ne_eqb}
use Rattle.numbers.proofs.LoopLaws.{next, end}
use Rattle.colleague.proofs.balance.norms_of.Goals as goal
use Rattle.colleague.proofs.balance.norms_of.Goals.{then-k-j, else-k-j}

pub loop-k-preserved : goal.loop-k-preserved
loop-k-preserved c =
    let v = c.loop-k.invariant in
    let h = c.loop-k-test.true in
    elim c.if-k-j.branch [
      | then-k-j w ↦
          let e = ne_eqb _ _ w.if-k-j.true in
          (next v.0 h (rw (e, ← w.magnitude-row.ensures) w.row-is), next v.1 h (rw (e, ← w.magnitude-column.ensures) w.column-is))
      | else-k-j w ↦ let e = eq-eqb _ _ w.if-k-j.false in (next v.0 h (rw e w.row-is), next v.1 h (rw e w.column-is))
    ]

pub returns : goal.returns
returns c = let v = c.loop-k.invariant in (end v.0 c.loop-k-test.false, end v.1 c.loop-k-test.false)
