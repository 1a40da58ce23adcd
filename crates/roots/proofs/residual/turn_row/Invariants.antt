use mathlib.Core.Path.{◌≡◌}
use lib.ListN.{length}
use lib.Ieee.{Float}
use Rattle.numbers.proofs.LoopLaws.{Going}
use Rattle.numbers.proofs.InPlace.{change}
use Rattle.roots.specs.Rows.{turns, no_turn, turn_of, turned}
use Rattle.roots.proofs.residual.turn_row.Given as goal

abbrev pub invariant-loop-k : goal.invariant-loop-k
invariant-loop-k g l = (length l.n ≡ g.row.N)
    × (length l.v ≡ g.row.N)
    × ((q : Float → Float) → ((y r : Float) → goal.F-post g l.over l.j y r → r ≡ q y)
    → Going (change (turn_of l.j q l.first l.left l.x) no_turn) g.row.N l.k (turns l.n l.v) (turned l.j q l.first l.left g.row.N l.x (turns l.initial.n l.initial.v)))
