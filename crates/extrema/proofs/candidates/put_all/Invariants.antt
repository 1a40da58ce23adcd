use lib.ListN.{length, get_or}
use lib.Ieee.{nan}
use Rattle.extrema.specs.Candidates.{candidate}
use Rattle.extrema.proofs.CandidateLaws.{Putting}
use Rattle.extrema.proofs.candidates.put_all.Given as goal

abbrev pub invariant-loop-i : goal.invariant-loop-i
invariant-loop-i l = Putting (λ k. candidate (get_or l.places k nan) (get_or l.e k nan)) (length l.places) l.n l.initial.words l.i l.words
