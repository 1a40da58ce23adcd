use Prim.Native.Nat.{◌*◌}
use mathlib.Core.List.{◌++◌}
use lib.ListN.{length, drop}
use Rattle.numbers.proofs.LoopLaws.{Going, put}
use Rattle.exports.specs.Plans.{edge_at, flat}
use Rattle.exports.proofs.plans.ends_into.Given as goal

abbrev pub invariant-loop-k : goal.invariant-loop-k
invariant-loop-k l = Going (put (edge_at l.list)) (2 * length l.list) l.k l.out (flat l.list ++ drop (2 * length l.list) l.initial.out)
