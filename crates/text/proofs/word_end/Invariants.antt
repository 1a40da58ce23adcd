use Rattle.std.proofs.Common.{◌+◌, ◌≤◌, length, drop}
use Rattle.text.specs.Words.{blank, word_length}
use Rattle.text.proofs.Passing.{Passing}
use Rattle.text.proofs.word_end.Given as goal

abbrev pub invariant-loop-i : goal.invariant-loop-i
invariant-loop-i l = (l.i ≤ length l.s) × Passing (λ (u : Unit {0}) b. blank b) (λ u b. u) l.s l.i tt (l.from + word_length (drop l.from l.s))
