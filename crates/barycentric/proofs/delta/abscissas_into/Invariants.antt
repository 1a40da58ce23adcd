use mathlib.Core.Path.{◌≡◌}
use lib.ListN.{length}
use Rattle.numbers.proofs.LoopLaws.{Going, put}
use Rattle.barycentric.specs.Abscissas.{abscissa, abscissas_of}
use Rattle.barycentric.proofs.delta.abscissas_into.Given as goal

abbrev pub invariant-loop-k : goal.invariant-loop-k
invariant-loop-k l = (length l.out ≡ length l.desired) × Going (put (abscissa l.delta l.desired l.weights)) (length l.desired) l.k l.out (abscissas_of l.delta l.desired l.weights)
