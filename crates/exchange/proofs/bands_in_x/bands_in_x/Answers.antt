-- `exchange::bands_in_x::bands_in_x` meets its contract. Assumes nothing.
use Rattle.exchange.proofs.BandLaws.{turn_next}
use Rattle.exchange.proofs.bands_in_x.bands_in_x.Goals as goal

pub loop-i-preserved : goal.loop-i-preserved
loop-i-preserved c = turn_next _ c.loop-i.invariant c.loop-i-test.true c.in_ok-list.ensures
