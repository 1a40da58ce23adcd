-- `exports::matrices::matrix_of` meets its contract. Assumes nothing.
use mathlib.Core.Path.{refl, ap}
use lib.ListN.{set}
use native.Mathlib.Omega.{arith}
use Rattle.numbers.proofs.LoopLaws.{next, end}
use Rattle.roots.proofs.RowLaws.{fill_all}
use Rattle.exports.specs.Matrices.{matrix_of}
use Rattle.exports.proofs.matrices.matrix_of.Goals as goal

pub loop-i-init : goal.loop-i-init
loop-i-init c = fill_all _ _ _ refl

pub loop-i-preserved : goal.loop-i-preserved
loop-i-preserved c = next c.loop-i.invariant c.loop-i-test.true (ap (set c.loop-i.rows c.loop-i.i) c.row_from.ensures)

pub returns : goal.returns
unfolding matrix_of
returns c = rw (end c.loop-i.invariant (omega (arith, c.loop-i-test.false)), c.side_of-size.ensures.side)
