use Rattle.exchange.proofs.BandLaws.{Turning}
use Rattle.exchange.proofs.bands_in_x.bands_in_x.Given as goal

abbrev pub invariant-loop-i : goal.invariant-loop-i
invariant-loop-i l = Turning l.bands l.i l.list
