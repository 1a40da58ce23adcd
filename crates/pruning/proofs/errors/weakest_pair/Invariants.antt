use mathlib.Core.Path.{◌≡◌}
use lib.ListN.{get_or}
use Rattle.pruning.specs.Errors.{negative_at, size_at}
use Rattle.pruning.proofs.RunLaws.{Seeking}
use Rattle.pruning.proofs.errors.weakest_pair.Given as goal

abbrev pub invariant-loop-k : goal.invariant-loop-k
invariant-loop-k l = (l.last ≡ size_at l.errors (get_or l.kept l.k 0)) × Seeking (negative_at l.errors) (size_at l.errors) l.kept 0 l.n l.k l.best l.v
