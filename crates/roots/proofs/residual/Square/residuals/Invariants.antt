use Prim.Native.Nat.{◌-◌}
use mathlib.Core.Path.{◌≡◌}
use lib.ListN.{length, get_or}
use lib.Ieee.{nan}
use Rattle.numbers.specs.Loops.{run, tab}
use Rattle.numbers.specs.Operations.{◌⊖◌}
use Rattle.numbers.proofs.Lanes.{row}
use Rattle.numbers.proofs.LoopLaws.{Going, put}
use Rattle.colleague.specs.Matrix.{at}
use Rattle.roots.specs.Residual.{turn}
use Rattle.roots.specs.Rows.{turns, no_turn}
use Rattle.roots.proofs.residual.Square.residuals.Given as goal

abbrev pub invariant-loop-k : goal.invariant-loop-k
invariant-loop-k g l = (length l.n ≡ g.row.N)
    × Going (put (λ k. get_or l.x k nan ⊖ at l.self.rows.now 0 0)) g.row.N l.k l.n (tab (λ k. get_or l.x k nan ⊖ at l.self.rows.now 0 0) g.row.N 0)

abbrev pub invariant-loop-j : goal.invariant-loop-j
invariant-loop-j g l = (length l.n ≡ g.row.N)
    × (length l.v ≡ g.row.N)
    × Going (row (λ k. turn l.self.rows.now (get_or l.x k nan)) g.row.N no_turn) (l.self.size - 1) l.j (turns l.n l.v)
    (run (row (λ k. turn l.self.rows.now (get_or l.x k nan)) g.row.N no_turn) (l.self.size - 1) 0 (turns l.initial.n l.initial.v))
