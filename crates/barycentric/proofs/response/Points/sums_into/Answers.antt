-- `barycentric::response::Points::sums_into` meets its contract. Assumes nothing.
use Prim.Native.Nat.{◌<◌}
use mathlib.Core.Path.{◌∙◌}
use native.Mathlib.Omega.{arith}
use borrow.Author.Rules.{rules}
use lib.ListN.{length}
use Rattle.numbers.proofs.LoopLaws.{next, end}
use Rattle.barycentric.proofs.response.Points.sums_into.Goals as goal

pub loop-i-preserved : goal.loop-i-preserved
loop-i-preserved c =
    let t = c in
    let g = t.loop-i in
    let a = c.add_row.ensures in (
      a.numers.same ∙ g.invariant.0,
      a.denoms.same ∙ g.invariant.1,
      λ k h.
          let n : k < length g.numer = omega (arith, h, g.invariant.0) in
          let d : k < length g.denom = omega (arith, h, g.invariant.1) in
          next (g.invariant.2 k h) t.loop-i-test.true (rw (a.numers.at k n, a.denoms.at k d)),
    )

pub returns : goal.returns
returns c =
    record {
      numers = search rules;
      denoms = search rules;
      at = λ k h. end (c.loop-i.invariant.2 k h) c.loop-i-test.false;
    }
