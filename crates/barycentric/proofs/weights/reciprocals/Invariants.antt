use Rattle.numbers.specs.Floats.{one64}
use Rattle.numbers.specs.Operations.{◌⊘◌}
use Rattle.barycentric.proofs.LaneLaws.{Passing}
use Rattle.barycentric.proofs.weights.reciprocals.Given as goal

abbrev pub invariant-loop-x : goal.invariant-loop-x
invariant-loop-x l = Passing (λ k s. one64 ⊘ s) l.initial.x-items l.x-index l.x-items
