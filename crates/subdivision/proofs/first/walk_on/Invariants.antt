use Rattle.subdivision.specs.First.{walked}
use Rattle.subdivision.proofs.WalkLaws.{Walking}
use Rattle.subdivision.proofs.first.walk_on.Given as goal

abbrev pub invariant-loop-band : goal.invariant-loop-band
invariant-loop-band l = Walking l.bands l.s (record { band = l.band; consumed = l.consumed }) (walked l.bands l.s l.bands.count l.fn.w)
