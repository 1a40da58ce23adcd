-- `roots::residual::Square::residual` meets its contract. Assumes nothing.
use mathlib.Core.Path.{ap}
use Rattle.numbers.proofs.LoopLaws.{next, end}
use Rattle.roots.specs.declared.residual.Turn.{Turn}
use Rattle.roots.specs.Residual.{residual}
use Rattle.roots.proofs.residual.Square.residual.Goals as goal

pub loop-j-preserved : goal.loop-j-preserved
loop-j-preserved c = next c.loop-j.invariant c.loop-j-test.true c.next_turn-t.ensures

pub returns : goal.returns
unfolding residual
returns c = ap (λ (t : Turn). t.n) (end c.loop-j.invariant c.loop-j-test.false)
