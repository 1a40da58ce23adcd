use mathlib.Core.Path.{◌≡◌}
use mathlib.Core.List.{◌++◌}
use lib.ListN.{length, get_or, drop, replicate}
use Rattle.numbers.proofs.LoopLaws.{Going, put}
use Rattle.pruning.specs.Candidates.{none, all}
use Rattle.extrema.specs.Extrema.{chosen}
use Rattle.extrema.proofs.pruned.chosen_from.Given as goal

abbrev pub invariant-loop-i : goal.invariant-loop-i
invariant-loop-i l = (length l.list ≡ 65)
    × Going (put (λ i. get_or (all l.words) (get_or l.places i 0) none)) (length l.places) l.i l.list (chosen (all l.words) l.places ++ drop (length l.places) (replicate 65 none))
