use Prim.Native.Nat.{◌*◌}
use lib.Dec.{eqb}
use Rattle.numbers.proofs.LoopLaws.{Seeking}
use Rattle.exports.specs.Matrices.{side_of}
use Rattle.exports.proofs.matrices.side_of.Given as goal

abbrev pub invariant-loop-s : goal.invariant-loop-s
invariant-loop-s l = Seeking (λ s. eqb l.n (s * s)) (λ s. s) (λ s u. u) (λ u. 16) 16 l.s (tt {0}) (side_of l.n)
