-- `extrema::proxy::derive` meets its contract. Assumes nothing.
use Prim.Native.Nat.{◌+◌}
use mathlib.Core.Path.{ap}
use native.Mathlib.Omega.{arith}
use lib.ListN.{get_or, set, length-set}
use lib.Ieee.{nan}
use Rattle.numbers.specs.Operations.{◌⊗◌}
use Rattle.numbers.proofs.LoopLaws.{next, end}
use Rattle.barycentric.proofs.LaneLaws.{fill_whole}
use borrow.Author.Rules.{rules}
use Rattle.extrema.proofs.proxy.derive.Goals as goal

pub loop-i-init : goal.loop-i-init
loop-i-init c = (search rules, fill_whole _ _ _ (search rules))

pub loop-i-preserved : goal.loop-i-preserved
loop-i-preserved c =
    let l = c.loop-i in (
      simp length-set l.invariant.0,
      next l.invariant.1 (omega arith) (ap (λ z. set l.out l.i (z ⊗ get_or c.args.a.now (l.i + 1) nan)) c.whole.ensures),
    )

pub returns : goal.returns
returns c = end c.loop-i.invariant.1 (omega arith)
