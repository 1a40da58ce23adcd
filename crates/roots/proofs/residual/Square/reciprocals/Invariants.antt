use Prim.Native.Nat.{◌+◌}
use mathlib.Core.Path.{◌≡◌}
use lib.ListN.{length}
use Rattle.roots.specs.Reciprocals.{Reciprocals}
use Rattle.roots.proofs.residual.Square.reciprocals.Given as goal

abbrev pub invariant-loop-j : goal.invariant-loop-j
invariant-loop-j l = (length l.inverse ≡ 14) × Reciprocals l.self.rows.now (l.j + 1) l.inverse
