use Rattle.std.proofs.Common.{false}
use Rattle.text.specs.Fractions.{fraction_from}
use Rattle.text.proofs.Pointing.{Pointing}
use Rattle.text.proofs.fraction.digits.Given as goal

abbrev pub invariant-loop-b : goal.invariant-loop-b
invariant-loop-b l = Pointing l.minus l.s l.so_far l.b-index (fraction_from l.minus 0 1 false l.s)
