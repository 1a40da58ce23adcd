use Prim.Native.Nat.{◌-◌}
use mathlib.Core.Path.{◌≡◌}
use Rattle.colleague.specs.Balance.{pass_from, pass_of}
use Rattle.colleague.proofs.balance.balance_pass.Given as goal

abbrev pub invariant-loop-j : goal.invariant-loop-j
invariant-loop-j l = pass_from (l.n - l.j) l.n l.j l.a l.moved ≡ pass_of l.initial.a l.n
