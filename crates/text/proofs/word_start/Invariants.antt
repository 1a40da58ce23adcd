use Rattle.std.proofs.Common.{◌+◌, drop}
use Rattle.text.specs.Words.{begins, remarked, lead}
use Rattle.text.proofs.Passing.{Passing}
use Rattle.text.proofs.word_start.Given as goal

abbrev pub invariant-loop-i : goal.invariant-loop-i
invariant-loop-i l = Passing begins remarked l.s l.i l.remark (l.at + lead (drop l.at l.s))
