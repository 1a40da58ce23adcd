-- `numbers::fill_with` meets its contract: what is there and what is still to come are the list gathered, and leave the list that the
-- definition leaves. Assumes nothing.
use mathlib.Core.Path.{ap, sym, ◌∙◌}
use native.Mathlib.Omega.{arith}
use lib.ListN.{length-set}
use lib.Seq.{take_all}
use Rattle.std.proofs.lemmas.Result.{err_from_is_err_and}
use Rattle.numbers.specs.Outcome.{gave}
use Rattle.numbers.proofs.OutcomeLaws.{gather_next, gather_stop, gather_end, fill_next, fill_stop, fill_end}
use Rattle.numbers.proofs.fill_with.Goals as goal

pub loop-i-preserved : goal.loop-i-preserved
loop-i-preserved g c =
    let l = c.loop-i in (
      simp length-set l.invariant.0,
      λ f gives.
          gather_next (l.invariant.1 f gives) c.loop-i-test.true (omega (arith, l.invariant.0))
          (gives l.i _ c.loop-i-test.true c.in_ok-out.ensures),
      λ f gives. fill_next (l.invariant.2 f gives) c.loop-i-test.true (gives l.i _ c.loop-i-test.true c.in_ok-out.ensures),
    )

pub returns-in_err-out-clause-outcome : goal.returns-in_err-out-clause-outcome
returns-in_err-out-clause-outcome g c f gives =
    let l = c.loop-i in
    let p = err_from_is_err_and c.from_residual.result c.from_residual.ensures.1 in
    rw (p.1, p.2)
    (gather_stop (l.invariant.1 f gives) c.loop-i-test.true
    (gives l.i _ c.loop-i-test.true c.in_err-out.ensures))

pub returns-clause-outcome : goal.returns-clause-outcome
returns-clause-outcome g c f gives =
    let l = c.loop-i in
    ap (λ z. gave z) (sym (take_all l.i l.out (omega (arith, l.invariant.0, c.loop-i-test.false))))
    ∙ gather_end (l.invariant.1 f gives) (omega (arith, c.loop-i-test.false))

pub returns-in_err-out-clause-left : goal.returns-in_err-out-clause-left
returns-in_err-out-clause-left g c f gives =
    let l = c.loop-i in
    fill_stop (l.invariant.2 f gives) c.loop-i-test.true (gives l.i _ c.loop-i-test.true c.in_err-out.ensures)

pub returns-clause-left : goal.returns-clause-left
returns-clause-left g c f gives =
    let l = c.loop-i in fill_end (l.invariant.2 f gives) (omega (arith, c.loop-i-test.false))
