-- `colleague::balance::scaled` meets its contract. Assumes nothing.
use Rattle.colleague.proofs.BalanceLaws.{steps_more, steps_end, steps_none}
use Rattle.colleague.proofs.balance.scaled.Goals as goal

pub returns-in-None : goal.returns-in-None
returns-in-None g c f w = steps_end f 1023 _ _ _ (c.loop.invariant f w) c.loop-test.true (w _ _ c.in-None.ensures)

pub loop-preserved : goal.loop-preserved
loop-preserved g c f w = steps_more f 1023 _ _ _ (c.loop.invariant f w) c.loop-test.true (w _ _ c.in-Some.ensures)

pub returns : goal.returns
returns g c f w = steps_none f 1023 _ _ _ (c.loop.invariant f w) c.loop-test.false
