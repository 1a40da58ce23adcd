-- `roots::residual::Square::lower_ends` meets its contract. Assumes nothing.
use native.Mathlib.Omega.{arith}
use lib.ListN.{length-set}
use Rattle.std.proofs.lemmas.Result.{err_from_is_err_and}
use Rattle.roots.proofs.BracketLaws.{find_nothing, find_root, find_stop, find_end, find_one}
use Rattle.roots.proofs.residual.Square.lower_ends.Goals as goal
use Rattle.roots.proofs.residual.Square.lower_ends.Goals.{in-Some, in_default}

pub returns-in_err-x : goal.returns-in_err-x
returns-in_err-x c =
    let l = c.loop-j in
    let p = err_from_is_err_and c.from_residual.result c.from_residual.ensures.1 in
    rw (p.1, p.2) (find_stop l.invariant.1 c.loop-j-test.true c.in_err-x.ensures, omega arith)

pub loop-j-preserved : goal.loop-j-preserved
loop-j-preserved c =
    let l = c.loop-j in
    let t = c.loop-j-test.true in
    elim c.match-branch-2.branch [
      | in-Some w ↦
          let y = rw w.in-Some.is at c.in_ok-x.ensures in
          rw (w.low-is, w.n-is) (simp length-set l.invariant.0, find_root l.invariant.1 t (omega (arith, l.invariant.0, l.invariant.1.behind)) y)
      | in_default w ↦ let y = rw w.in_default.is at c.in_ok-x.ensures in rw (w.low-is, w.n-is) (l.invariant.0, find_nothing l.invariant.1 t y)
    ]

pub returns-then-g : goal.returns-then-g
returns-then-g c =
    let l = c.loop-j in
    (rw c.cell_end.ensures (find_one l.invariant.1 c.loop-j-test.false (omega (arith, l.invariant.0, l.invariant.1.behind, l.invariant.1.within)) c.if-g.true), simp length-set (omega (arith, l.invariant.0, l.invariant.1.behind, l.invariant.1.within)))

pub returns : goal.returns
returns c =
    let l = c.loop-j in
    (find_end l.invariant.1 c.loop-j-test.false c.if-g.false, omega (arith, l.invariant.0, l.invariant.1.behind, l.invariant.1.within))
