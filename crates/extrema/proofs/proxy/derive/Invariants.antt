use Prim.Native.Nat.{◌+◌, ◌-◌}
use mathlib.Core.Path.{◌≡◌}
use lib.ListN.{length, get_or}
use lib.Ieee.{nan}
use Rattle.numbers.specs.Operations.{◌⊗◌}
use Rattle.numbers.proofs.LoopLaws.{Going, put}
use Rattle.chebyshev.specs.Angles.{whole}
use Rattle.extrema.specs.Proxy.{derivative}
use Rattle.extrema.proofs.proxy.derive.Given as goal

abbrev pub invariant-loop-i : goal.invariant-loop-i
invariant-loop-i l = (length l.out ≡ length l.a - 1)
    × Going (put (λ k. whole (k + 1) ⊗ get_or l.a (k + 1) nan)) (length l.a - 1) l.i l.out (derivative l.a)
