use Prim.Native.Nat.{◌-◌}
use mathlib.Core.Path.{◌≡◌}
use Rattle.std.specs.Prelude.{Option}
use Rattle.colleague.specs.declared.balance.Scale.{Scale}
use Rattle.colleague.specs.Balance.{steps}
use Rattle.colleague.proofs.balance.scaled.Given as goal

abbrev pub invariant-loop : goal.invariant-loop
invariant-loop g l = (next : Scale → Option Scale) → ((s : Scale) (r : Option Scale) → goal.F-post g l.step s r → r ≡ next s) → steps next (1023 - l.counter) l.s ≡ steps next 1023 l.initial.s
