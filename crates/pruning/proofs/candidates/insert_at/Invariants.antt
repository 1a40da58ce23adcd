use Rattle.pruning.proofs.SortLaws.{Moving}
use Rattle.pruning.proofs.candidates.insert_at.Given as goal

abbrev pub invariant-loop-k : goal.invariant-loop-k
invariant-loop-k l = Moving l.initial.words l.i l.c l.k l.words
