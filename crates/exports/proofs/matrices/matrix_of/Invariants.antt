use Rattle.numbers.specs.Loops.{tab}
use Rattle.numbers.proofs.LoopLaws.{Going, put}
use Rattle.exports.specs.Matrices.{row_from}
use Rattle.exports.proofs.matrices.matrix_of.Given as goal

abbrev pub invariant-loop-i : goal.invariant-loop-i
invariant-loop-i l = Going (put (row_from l.entries l.size)) 15 l.i l.rows (tab (row_from l.entries l.size) 15 0)
