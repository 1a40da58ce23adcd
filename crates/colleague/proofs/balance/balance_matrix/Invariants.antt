use Prim.Native.Nat.{◌-◌}
use mathlib.Core.Path.{◌≡◌}
use Rattle.colleague.specs.Balance.{balanced_from, balanced_of}
use Rattle.colleague.proofs.balance.balance_matrix.Given as goal

abbrev pub invariant-loop-made : goal.invariant-loop-made
invariant-loop-made l = balanced_from (64 - l.made) l.made l.n l.a ≡ balanced_of l.initial.a l.n
