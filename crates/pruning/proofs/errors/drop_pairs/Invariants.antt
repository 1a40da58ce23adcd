use Prim.Native.Nat.{◌-◌, ◌/◌, ◌≤◌}
use mathlib.Core.Path.{◌≡◌}
use lib.ListN.{length, take}
use Rattle.pruning.specs.Prune.{without_pairs}
use Rattle.pruning.specs.Errors.{negative_at, size_at}
use Rattle.pruning.proofs.PairLaws.{Dropping}
use Rattle.pruning.proofs.errors.drop_pairs.Given as goal

abbrev pub invariant-loop-k : goal.invariant-loop-k
invariant-loop-k l = (length l.kept ≡ length l.initial.kept)
    × (l.k ≤ l.m)
    × Dropping (negative_at l.errors) (size_at l.errors) l.n l.k l.kept (without_pairs (negative_at l.errors) (size_at l.errors) ((l.m - l.n) / 2) (take l.m l.initial.kept))

abbrev pub decreases-loop-k : goal.decreases-loop-k
decreases-loop-k l = l.k
