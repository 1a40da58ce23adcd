-- `barycentric::response::Points::response` meets its contract. Assumes nothing.
use Rattle.numbers.proofs.LoopLaws.{seek_next}
use Rattle.barycentric.proofs.response.Points.response.Goals as goal

pub loop-i-preserved : goal.loop-i-preserved
loop-i-preserved c =
    seek_next c.loop-i.invariant c.loop-i-test.true
    c.if-x0-self.false
    c.step-s.ensures
