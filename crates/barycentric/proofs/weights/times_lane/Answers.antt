-- `barycentric::weights::times_lane` meets its contract. Assumes nothing.
use Prim.Native.Nat.{◌+◌, ◌<◌, ◌≤◌}
use mathlib.Core.Path.{◌∙◌}
use native.Mathlib.Omega.{arith}
use borrow.Author.Rules.{rules}
use lib.ListN.{length}
use Rattle.numbers.proofs.LoopLaws.{stride_start, stride_next, stride_end}
use Rattle.barycentric.specs.Weights.{lane}
use Rattle.barycentric.proofs.weights.times_lane.Goals as goal

pub loop-j-init : goal.loop-j-init
unfolding lane
loop-j-init c = (search rules, λ k h. stride_start (search rules))

pub loop-j-preserved : goal.loop-j-preserved
loop-j-preserved c =
    let g = c.loop-j in
    let a = c.times_row.ensures in (
      a.same ∙ g.invariant.0,
      λ k h.
          let q : k < length g.p = omega (arith, h, g.invariant.0) in
          stride_next (search rules) (g.invariant.1 k h) c.loop-j-test.true (a.at k q),
    )

pub returns-2 : goal.returns-2
returns-2 c =
    let g = c.loop-j in
    let a = c.times_row.ensures in
    let e : length c.args.x.now ≤ g.j + c.args.d = omega arith in
    record {
      same = search rules;
      at = λ k h.
          let q : k < length c.args.x.now = omega (arith, h) in
          let r : k < length g.p = omega (arith, h, g.invariant.0) in
          stride_end (stride_next (search rules) (g.invariant.1 k q) c.loop-j-test.true (a.at k r)) e;
    }

pub returns : goal.returns
returns c =
    record {
      same = search rules;
      at = λ k h.
          let q : k < length c.args.x.now = omega (arith, h) in
          stride_end (c.loop-j.invariant.1 k q) c.loop-j-test.false;
    }
