-- `text::word_end` meets its contract. Assumes nothing.
use Rattle.std.proofs.Common.{◌≡◌, refl, sym, ◌∙◌, arith, length}
use Rattle.text.proofs.Passing.{pass_start, pass_stop, pass_next, pass_end}
use Rattle.text.proofs.word_end.Goals as goal

pub loop-i-init : goal.loop-i-init
loop-i-init c = (c.requires, pass_start)

pub returns-then-is_blank : goal.returns-then-is_blank
returns-then-is_blank c = pass_stop c.loop-i.invariant.1 c.loop-i-test.true (sym c.is_blank.ensures ∙ c.if-is_blank.true)

pub loop-i-preserved : goal.loop-i-preserved
loop-i-preserved c = (
  omega (arith, c.loop-i-test.true),
  pass_next c.loop-i.invariant.1 c.loop-i-test.true (sym c.is_blank.ensures ∙ c.if-is_blank.false) refl,
)

pub returns : goal.returns
returns c =
    let e = pass_end c.loop-i.invariant.1 (omega (arith, c.loop-i-test.false)) in
    let k : length c.args.s.now ≡ c.loop-i.i = omega (arith, c.loop-i-test.false, c.loop-i.invariant.0) in
    k ∙ e
