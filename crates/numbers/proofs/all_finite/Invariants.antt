use Rattle.numbers.proofs.FiniteLaws.{Counting}
use Rattle.numbers.proofs.all_finite.Given as goal

abbrev pub invariant-loop-x : goal.invariant-loop-x
invariant-loop-x l = Counting l.xs l.x-index l.faults
