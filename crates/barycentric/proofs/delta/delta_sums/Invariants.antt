use lib.ListN.{length}
use Rattle.numbers.proofs.LoopLaws.{Going}
use Rattle.barycentric.specs.Delta.{delta_step, delta_sums}
use Rattle.barycentric.proofs.delta.delta_sums.Given as goal

abbrev pub invariant-loop-i : goal.invariant-loop-i
invariant-loop-i l = Going (delta_step l.wk l.desired l.weights) (length l.wk) l.i l.s (delta_sums l.wk l.desired l.weights)
