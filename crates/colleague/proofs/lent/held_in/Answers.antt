-- `colleague::lent::held_in` meets its contract. Assumes nothing.
use Prim.Native.Nat.{◌<◌}
use mathlib.Core.Path.{sym, ◌∙◌}
use native.Mathlib.Omega.{arith}
use borrow.Author.Rules.{rules}
use borrow.Author.Tests.{lt-leb, le-leb}
use lib.ListN.{length}
use Rattle.colleague.specs.Answer.{colleague_for}
use Rattle.colleague.proofs.BuiltLaws.{zeros_within}
use Rattle.colleague.proofs.AnswerLaws.{not_finite, none_left, one_left, more_left}
use Rattle.colleague.proofs.lent.held_in.Goals as goal
use Rattle.colleague.proofs.lent.held_in.Goals.{then-ck-lt1-via-then-ck-lt1, then-ck-lt1-via-else-ck-lt1+then-ck-gt-COEFFICIENTS}

pub returns-then-ck-lt1 : goal.returns-then-ck-lt1
unfolding colleague_for
returns-then-ck-lt1 c =
    elim c.then-ck-lt1.branch [
      | then-ck-lt1-via-then-ck-lt1 w ↦ rw (lt-leb _ _ w.if-ck-lt1.true)
      | then-ck-lt1-via-else-ck-lt1+then-ck-gt-COEFFICIENTS w ↦ rw (le-leb _ _ w.if-ck-lt1.false, lt-leb _ _ w.if-ck-gt-COEFFICIENTS.true)
    ]

pub returns-then-not-all_finite : goal.returns-then-not-all_finite
returns-then-not-all_finite c = not_finite _ c.if-ck-lt1.false c.if-ck-gt-COEFFICIENTS.false (sym c.all_finite.ensures ∙ c.if-not-all_finite.true)

pub balance_in-requires : goal.balance_in-requires
balance_in-requires c =
    let w = zeros_within c.args.ck.now (length c.args.ck.now) in
    let e = c.without_zeros.ensures in
    let m : 1 < c.without_zeros.result = search rules in
    (omega (arith, w, e), omega (arith, w, e, c.if-ck-gt-COEFFICIENTS.false), c.requires)

pub returns-in-0 : goal.returns-in-0
returns-in-0 c = none_left _ c.if-ck-lt1.false c.if-ck-gt-COEFFICIENTS.false (sym c.all_finite.ensures ∙ c.if-not-all_finite.false) c.without_zeros.ensures c.in-0.is

pub returns-in-1 : goal.returns-in-1
returns-in-1 c = rw c.requires (one_left _ c.if-ck-lt1.false c.if-ck-gt-COEFFICIENTS.false (sym c.all_finite.ensures ∙ c.if-not-all_finite.false) c.without_zeros.ensures c.in-1.is)

pub returns-in_default : goal.returns-in_default
returns-in_default c = c.balance_in.ensures ∙ more_left _ c.if-ck-lt1.false c.if-ck-gt-COEFFICIENTS.false (sym c.all_finite.ensures ∙ c.if-not-all_finite.false) c.without_zeros.ensures (search rules)
