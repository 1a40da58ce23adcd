use Prim.Native.Nat.{◌-◌}
use Rattle.numbers.specs.Loops.{run}
use Rattle.numbers.proofs.LoopLaws.{Going}
use Rattle.roots.specs.Residual.{first, turn}
use Rattle.roots.proofs.residual.Square.residual.Given as goal

abbrev pub invariant-loop-j : goal.invariant-loop-j
invariant-loop-j l =
    let m = l.self in
    Going (turn m.rows.now l.x) (m.size - 1) l.j l.t (run (turn m.rows.now l.x) (m.size - 1) 0 (first m.rows.now l.x))
