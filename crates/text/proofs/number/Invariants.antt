use Rattle.text.specs.Numerals.{numeral}
use Rattle.text.proofs.Reading.{Reading}
use Rattle.text.proofs.number.Given as goal

abbrev pub invariant-loop-b : goal.invariant-loop-b
invariant-loop-b l = Reading l.base l.s l.n l.b-index (numeral l.base 0 l.s)
