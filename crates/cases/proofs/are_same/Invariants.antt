use Prim.Native.Nat.{◌-◌}
use mathlib.Core.Bool.{true, false, not}
use Rattle.numbers.specs.Loops.{every}
use Rattle.numbers.proofs.LoopLaws.{Seeking}
use Rattle.cases.specs.Cases.{same_bits}
use Rattle.cases.proofs.are_same.Given as goal

abbrev pub invariant-loop-i : goal.invariant-loop-i
invariant-loop-i l = Seeking (λ i. not (same_bits l.a l.b i)) (λ i. false) (λ i s. s) (λ s. true) l.count l.i (tt {0}) (every (same_bits l.a l.b) l.count)
