use mathlib.Core.Path.{◌≡◌}
use lib.ListN.{length}
use Rattle.numbers.proofs.LoopLaws.{Going}
use Rattle.exchange.specs.Flatness.{spread, widen, spread_of}
use Rattle.exchange.proofs.flatness.spread_of.Given as goal

abbrev pub invariant-loop-i : goal.invariant-loop-i
invariant-loop-i l = (l.i-end ≡ length l.list) × Going (widen l.list) (length l.list) l.i (spread l.most l.least) (spread_of l.list)
