use mathlib.Core.Path.{◌≡◌}
use lib.ListN.{length}
use Rattle.pruning.specs.Prune.{runs}
use Rattle.pruning.specs.Errors.{negative_at, size_at, places_of}
use Rattle.pruning.proofs.RunLaws.{Running}
use Rattle.pruning.proofs.errors.keep_runs.Given as goal

abbrev pub invariant-loop-i : goal.invariant-loop-i
invariant-loop-i l = (length l.kept ≡ length l.initial.kept)
    × (l.below ≡ negative_at l.errors l.b)
    × (l.largest ≡ size_at l.errors l.b)
    × Running (negative_at l.errors) (size_at l.errors) (λ k. k) (length l.errors) l.i l.m l.b l.kept (runs (negative_at l.errors) (size_at l.errors) (places_of l.errors))
