-- `chebyshev::clenshaw_ends` meets its contract. Assumes nothing.
use mathlib.Core.Path.{refl}
use native.Mathlib.Omega.{arith}
use lib.ListN.{get_or, length-set}
use lib.Ieee.{nan}
use Rattle.numbers.specs.Operations.{◌⊕◌, ◌⊖◌, ◌⊗◌}
use Rattle.numbers.proofs.LoopLaws.{next, end}
use Rattle.numbers.proofs.InPlace.{change_start}
use Rattle.chebyshev.proofs.clenshaw_ends.Goals as goal

pub loop-k-init : goal.loop-k-init
loop-k-init c = (refl, change_start (λ k u. ((u ⊗ get_or c.args.b1.now k nan ⊖ get_or c.args.b2.now k nan) ⊕ c.args.a0) ⊗ c.args.scale) nan _ _ refl)

pub loop-k-preserved : goal.loop-k-preserved
loop-k-preserved c =
    let l = c.loop-k in
    (simp length-set l.invariant.0, next l.invariant.1 (omega arith) refl)

pub returns : goal.returns
returns c = end c.loop-k.invariant.1 (omega arith)
