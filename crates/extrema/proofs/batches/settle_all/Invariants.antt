use Prim.Native.Nat.{◌-◌, ◌≤◌}
use mathlib.Core.Path.{◌≡◌}
use lib.ListN.{length}
use Rattle.pruning.specs.Candidates.{view}
use Rattle.extrema.specs.Errors.{curve_of}
use Rattle.extrema.specs.Batches.{Settled}
use Rattle.extrema.proofs.batches.settle_all.Given as goal

abbrev pub invariant-loop-i : goal.invariant-loop-i
invariant-loop-i l = (l.start ≤ l.i)
    × (l.i ≤ l.n)
    × (view l.words l.start ≡ view l.initial.words l.start)
    × (length l.words ≡ length l.initial.words)
    × Settled (curve_of l.curve) l.start l.i l.initial.words l.words

abbrev pub decreases-loop-i : goal.decreases-loop-i
decreases-loop-i l = l.n - l.i
