-- `pruning::errors::keep_runs` meets its contract. Assumes nothing.
use mathlib.Core.Path.{refl}
use native.Mathlib.Omega.{arith}
use lib.ListN.{length-set}
use Rattle.pruning.specs.Errors.{negative_at, size_at}
use Rattle.pruning.proofs.Alternation.{like}
use Rattle.pruning.proofs.RunLaws.{runs_start, runs_turn, runs_larger, runs_same, runs_end}
use Rattle.pruning.proofs.errors.keep_runs.Goals as goal
use Rattle.pruning.proofs.errors.keep_runs.Goals.{then-below-negative, else-below-negative+then-largest-size, else-below-negative+else-largest-size}

pub loop-i-init : goal.loop-i-init
loop-i-init c =
    let s = c in
    let e = s.args.errors.now in
    (refl, refl, c.magnitude-largest.ensures, runs_start (negative_at e) (size_at e) s.requires.0)

pub loop-i-preserved : goal.loop-i-preserved
loop-i-preserved c =
    let e = c.args.errors.now in
    let l = c.loop-i in
    let v = l.invariant in
    let h = c.loop-i-test.true in
    let z = c.magnitude-size.ensures in
    elim c.if-below-negative.branch [
      | then-below-negative w ↦
          rw (w.kept-is, w.m-is, w.b-is, w.below-is, w.largest-is) (
            simp length-set v.0,
            refl,
            z,
            runs_turn (negative_at e) (size_at e) v.3 h (omega (arith, v.0, v.3.below, v.3.within)) (rw v.1 at w.if-below-negative.true),
          )
      | else-below-negative+then-largest-size w ↦
          rw (w.m-is, w.kept-is, w.b-is, w.below-is, w.largest-is) (
            v.0,
            like _ _ w.if-below-negative.false,
            z,
            runs_larger (negative_at e) (size_at e) v.3 h (rw v.1 at w.if-below-negative.false) (rw (v.2, z) at w.if-largest-size.true),
          )
      | else-below-negative+else-largest-size w ↦
          rw (w.m-is, w.kept-is, w.b-is, w.below-is, w.largest-is) (
            v.0,
            v.1,
            v.2,
            runs_same (negative_at e) (size_at e) v.3 h (rw v.1 at w.if-below-negative.false) (rw (v.2, z) at w.if-largest-size.false),
          )
    ]

pub returns : goal.returns
returns c =
    let e = c.args.errors.now in
    let l = c.loop-i.invariant.3 in (
      omega (arith, l.below, l.within),
      runs_end (negative_at e) (size_at e) l c.loop-i-test.false (omega (arith, c.loop-i.invariant.0, l.below, l.within)),
    )
