use Prim.Native.Nat.{◌+◌}
use mathlib.Core.Path.{◌≡◌}
use lib.ListN.{length}
use Rattle.numbers.specs.Loops.{tab}
use Rattle.numbers.proofs.LoopLaws.{Going, put}
use Rattle.roots.specs.Brackets.{cell_end}
use Rattle.roots.proofs.brackets.cell_ends.Given as goal

abbrev pub invariant-loop-k : goal.invariant-loop-k
invariant-loop-k g l = (length l.x ≡ g.row.N) × Going (put (λ k. cell_end (l.j + k))) g.row.N l.k l.x (tab (λ k. cell_end (l.j + k)) g.row.N 0)
