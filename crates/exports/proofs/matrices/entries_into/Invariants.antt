use Prim.Native.Nat.{◌*◌}
use mathlib.Core.List.{◌++◌}
use lib.ListN.{drop}
use Rattle.numbers.specs.Loops.{tab}
use Rattle.numbers.proofs.LoopLaws.{Going, put}
use Rattle.exports.specs.Matrices.{entry_at}
use Rattle.exports.proofs.matrices.entries_into.Given as goal

abbrev pub invariant-loop-k : goal.invariant-loop-k
invariant-loop-k l = Going (put (entry_at l.m)) (l.s * l.s) l.k l.out (tab (entry_at l.m) (l.s * l.s) 0 ++ drop (l.s * l.s) l.initial.out)
