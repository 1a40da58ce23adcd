-- `colleague::balance::balance_pass` meets its contract. Assumes nothing.
use mathlib.Core.Path.{refl}
use Rattle.colleague.proofs.BalanceLaws.{pass_by_fact, pass_end}
use Rattle.colleague.proofs.balance.balance_pass.Goals as goal
use Rattle.colleague.proofs.balance.balance_pass.Goals.{After-balance_row, then-branch, else-branch}

pub returns-in_err-balance_row : goal.returns-in_err-balance_row
returns-in_err-balance_row c =
    let k = c.loop-j in
    let did = pass_by_fact c.args.n k.j k.a k.moved _ c.loop-j-test.true c.balance_row.result c.balance_row.new.a c.balance_row.ensures.0 c.balance_row.ensures.1 k.invariant in
    rw (c.from_residual.ensures, ← (rw c.in_err-balance_row.was at did)) (refl, refl)

pub loop-j-preserved : goal.loop-j-preserved
loop-j-preserved c =
    let k = c.loop-j in
    let did = pass_by_fact c.args.n k.j k.a k.moved _ c.loop-j-test.true c.balance_row.result c.balance_row.new.a c.balance_row.ensures.0 c.balance_row.ensures.1 k.invariant in
    elim c.if-branch.branch [
      | then-branch w ↦ rw w.moved-is (rw (c.in_ok-balance_row.was, w.if-branch.true) at did)
      | else-branch w ↦ rw w.moved-is (rw (c.in_ok-balance_row.was, w.if-branch.false) at did)
    ]

pub returns : goal.returns
returns c =
    let k = c.loop-j in
    let e = pass_end c.args.n k.j k.a k.moved _ c.loop-j-test.false k.invariant in
    rw e (refl, refl)
