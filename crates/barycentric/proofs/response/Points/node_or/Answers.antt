-- `barycentric::response::Points::node_or` meets its contract. Assumes nothing.
use mathlib.Core.Path.{refl}
use Rattle.numbers.proofs.LoopLaws.{seek_next}
use Rattle.barycentric.proofs.response.Points.node_or.Goals as goal

pub loop-i-preserved : goal.loop-i-preserved
loop-i-preserved c =
    seek_next c.loop-i.invariant c.loop-i-test.true
    c.if-x0-self.false
    refl
