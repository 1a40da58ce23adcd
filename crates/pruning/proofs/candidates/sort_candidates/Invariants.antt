use Prim.Native.Nat.{◌≤◌, ◌/◌, min}
use mathlib.Core.Path.{◌≡◌}
use lib.ListN.{length}
use Rattle.pruning.specs.Sort.{sorted_words}
use Rattle.pruning.proofs.candidates.sort_candidates.Given as goal

abbrev pub invariant-loop-i : goal.invariant-loop-i
invariant-loop-i l = (l.i ≤ min l.n (length l.initial.words / 2)) × (l.words ≡ sorted_words l.initial.words l.i)
