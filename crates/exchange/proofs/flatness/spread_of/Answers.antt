-- `exchange::flatness::spread_of` meets its contract. Assumes nothing.
use mathlib.Core.Path.{refl}
use native.Mathlib.Omega.{arith}
use Rattle.numbers.proofs.LoopLaws.{end}
use Rattle.exchange.proofs.SpreadLaws.{spread_start, spread_next}
use Rattle.exchange.proofs.flatness.spread_of.Goals as goal

pub loop-i-init : goal.loop-i-init
loop-i-init c = (refl, spread_start _ _ _ c.requires c.magnitude-most.ensures)

pub loop-i-preserved : goal.loop-i-preserved
loop-i-preserved c = let l = c.loop-i in
    (l.invariant.0, spread_next _ _ _ l.invariant.1 (omega (arith, l.invariant.0, c.loop-i-test.true)) c.magnitude-a.ensures c.larger-most.ensures c.smaller-least.ensures)

pub returns : goal.returns
returns c = end c.loop-i.invariant.1 (omega (arith, c.loop-i.invariant.0, c.loop-i-test.false))
