use mathlib.Core.Path.{◌≡◌}
use lib.ListN.{length, get_or}
use lib.Ieee.{nan}
use Rattle.numbers.specs.Floats.{one64}
use Rattle.numbers.specs.Operations.{◌⊕◌, ◌⊗◌}
use Rattle.numbers.proofs.LoopLaws.{Going, put}
use Rattle.numbers.specs.Loops.{tab}
use Rattle.extrema.proofs.proxy.scale_onto.Given as goal

abbrev pub invariant-loop-i : goal.invariant-loop-i
invariant-loop-i l = (length l.out ≡ length l.places)
    × Going (put (λ k. (get_or l.places k nan ⊕ one64) ⊗ l.scale ⊕ l.begin)) (length l.places) l.i l.out (tab (λ k. (get_or l.places k nan ⊕ one64) ⊗ l.scale ⊕ l.begin) (length l.places) 0)
