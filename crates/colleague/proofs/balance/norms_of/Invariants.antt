use mathlib.Core.Bool.{cond}
use lib.Dec.{eqb}
use Rattle.numbers.specs.Floats.{magnitude_of}
use Rattle.numbers.specs.Operations.{◌⊕◌}
use Rattle.numbers.proofs.LoopLaws.{Going}
use Rattle.colleague.specs.Matrix.{at}
use Rattle.colleague.specs.Balance.{row_norm, column_norm}
use Rattle.colleague.proofs.balance.norms_of.Given as goal

abbrev pub invariant-loop-k : goal.invariant-loop-k
invariant-loop-k l = Going (λ k t. cond (eqb k l.j) t (t ⊕ magnitude_of (at l.a l.j k))) l.n l.k l.row (row_norm l.a l.n l.j)
    × Going (λ k t. cond (eqb k l.j) t (t ⊕ magnitude_of (at l.a k l.j))) l.n l.k l.column (column_norm l.a l.n l.j)
