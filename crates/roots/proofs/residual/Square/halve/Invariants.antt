use Prim.Native.Nat.{◌-◌}
use mathlib.Core.Path.{◌≡◌}
use Rattle.roots.specs.Brackets.{halved}
use Rattle.roots.proofs.residual.Square.halve.Given as goal

abbrev pub invariant-loop : goal.invariant-loop
invariant-loop l =
    let m = l.self in
    halved m.rows.now m.size (40 - l.counter) l.q l.b.low l.b.high ≡ halved m.rows.now m.size 40 l.p l.low l.high
