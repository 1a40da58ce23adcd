-- `cases::numbers_into` meets its contract. Assumes nothing.
use Rattle.std.proofs.Common.{refl, sym, ◌∙◌}
use lib.ListN.{length-set}
use Rattle.cases.proofs.ReadLaws.{read_start, read_full, read_none, read_next, read_end}
use Rattle.cases.proofs.numbers_into.Goals as goal

pub returns-then-out-i : goal.returns-then-out-i
returns-then-out-i c =
    let z = read_full c.loop-i.invariant.1 c.loop-i-test.true c.if-out-i.true in
    rw (← z) (record { is = refl; out = refl })

pub returns-in_err-word : goal.returns-in_err-word
returns-in_err-word c =
    let z = read_none c.loop-i.invariant.1 c.loop-i-test.true c.if-out-i.false (sym c.next.ensures ∙ c.in_err-word.was) in
    rw (← z) (record { is = c.from_residual.ensures; out = refl })

pub loop-i-preserved : goal.loop-i-preserved
loop-i-preserved c =
    let z = read_next c.loop-i.invariant.1 c.loop-i-test.true c.if-out-i.false (sym c.next.ensures ∙ c.in_ok-word.was) in
    (simp length-set c.loop-i.invariant.0, rw c.number_in.ensures z)

pub returns : goal.returns
returns c =
    let z = read_end c.loop-i.invariant.1 c.loop-i-test.false in
    rw (← z) (record { is = refl; out = refl })
