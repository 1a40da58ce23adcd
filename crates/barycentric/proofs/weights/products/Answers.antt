-- `barycentric::weights::products` meets its contract. Assumes nothing.
use Prim.Native.Nat.{◌<◌}
use mathlib.Core.Path.{◌∙◌}
use native.Mathlib.Omega.{arith}
use borrow.Author.Rules.{rules}
use lib.ListN.{length}
use Rattle.numbers.proofs.LoopLaws.{start, next, end}
use Rattle.barycentric.specs.Weights.{product}
use Rattle.barycentric.proofs.weights.products.Goals as goal

pub loop-a-init : goal.loop-a-init
unfolding product
loop-a-init c = (search rules, search rules, search rules, λ k h. rw (c.requires.ones k h) start)

pub loop-a-preserved : goal.loop-a-preserved
loop-a-preserved c =
    let g = c.loop-a in
    let a = c.times_lane.ensures in (
      search rules,
      search rules,
      a.same ∙ g.invariant.2,
      λ k h.
          let q : k < length g.p = omega (arith, h, g.invariant.2) in
          next (g.invariant.3 k h) c.loop-a-test.true (a.at k q),
    )

pub returns : goal.returns
returns c =
    let g = c.loop-a in
    record {
      same = search rules;
      at = λ k h. end (g.invariant.3 k (search rules)) c.loop-a-test.false;
    }
