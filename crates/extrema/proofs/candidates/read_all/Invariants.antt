use Prim.Native.Nat.{◌+◌}
use mathlib.Core.Path.{◌≡◌}
use lib.ListN.{length, get_or}
use lib.Ieee.{Float}
use Rattle.numbers.specs.Loops.{tab}
use Rattle.numbers.proofs.LoopLaws.{Going, put}
use Rattle.pruning.specs.declared.candidates.Candidate.{Candidate}
use Rattle.pruning.specs.Candidates.{none, all}
use Rattle.extrema.proofs.candidates.read_all.Given as goal

abbrev pub invariant-loop-k : goal.invariant-loop-k
invariant-loop-k g l = (length l.out ≡ length l.initial.out)
    × ((f : Candidate → Float) → ((c : Candidate) (x : Float) → goal.F-post g l.part c x → x ≡ f c) → Going (put (λ k. f (get_or (all l.words) (l.i + k) none))) (length l.initial.out) l.k l.out (tab (λ k. f (get_or (all l.words) (l.i + k) none)) (length l.initial.out) 0))
