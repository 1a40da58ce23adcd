use mathlib.Core.Path.{◌≡◌}
use mathlib.Core.List.{◌++◌}
use lib.ListN.{length, drop, replicate}
use Rattle.numbers.specs.Floats.{zero64}
use Rattle.numbers.specs.Loops.{tab}
use Rattle.numbers.proofs.LoopLaws.{Going, put}
use Rattle.exchange.proofs.StepLaws.{from_last_lem}
use Rattle.exchange.proofs.step.falling.Given as goal

abbrev pub invariant-loop-i : goal.invariant-loop-i
invariant-loop-i l = (length l.points ≡ 65) × Going (put (from_last_lem l.list)) (length l.list) l.i l.points (tab (from_last_lem l.list) (length l.list) 0 ++ drop (length l.list) (replicate 65 zero64))
