use mathlib.Core.Path.{◌≡◌}
use Rattle.numbers.specs.Floats.{one64}
use Rattle.numbers.specs.Operations.{◌⊘◌}
use Rattle.numbers.proofs.LoopLaws.{Going}
use Rattle.colleague.specs.Balance.{scale_at, scaled_by}
use Rattle.colleague.proofs.balance.scale_by.Given as goal

abbrev pub invariant-loop-k : goal.invariant-loop-k
invariant-loop-k l = (l.f_recip ≡ one64 ⊘ l.f) × Going (scale_at l.f l.j) l.n l.k l.a (scaled_by l.f l.initial.a l.n l.j)
