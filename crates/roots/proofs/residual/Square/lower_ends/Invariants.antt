use mathlib.Core.Path.{◌≡◌}
use lib.ListN.{length}
use Rattle.roots.specs.Brackets.{found, low_ends}
use Rattle.roots.proofs.BracketLaws.{Finding}
use Rattle.roots.proofs.residual.Square.lower_ends.Given as goal

abbrev pub invariant-loop-j : goal.invariant-loop-j
invariant-loop-j l = (length l.low ≡ 65) × Finding l.self.rows.now l.self.size l.g l.j l.n l.low (low_ends (found l.self.rows.now l.self.size l.g 64 0))
