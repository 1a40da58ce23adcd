-- `roots::derivative_roots` meets its contract. Assumes nothing.
use mathlib.Core.Path.{refl}
use mathlib.Core.List.{[]}
use native.Mathlib.Omega.{arith}
use borrow.Author.Tests.{lt-leb, le-leb, eq-eqb, ne_eqb}
use Rattle.numbers.proofs.OutcomeLaws.{writes, writes_none}
use Rattle.colleague.proofs.Given.{Giving, lent_given}
use Rattle.roots.proofs.AnswerLaws.{short_of, none_of, some_of, wrote_same}
use Rattle.roots.proofs.derivative_roots.Goals as goal
use Rattle.roots.proofs.derivative_roots.Goals.{In_ok-s}

-- the matrix that was lent

lent : (c : In_ok-s) → Giving c.args.ck.now c.in_ok-s.s c.colleague_into.new.a
lent c = lent_given c.colleague_into.ensures c.in_ok-s.was

pub returns-then-out-s : goal.returns-then-out-s
returns-then-out-s c = writes_none (short_of (lent (goal.at.returns-then-out-s c).In_ok-s) _ (lt-leb _ _ c.if-out-s.true))

pub returns-then-s-eq0 : goal.returns-then-s-eq0
returns-then-s-eq0 c = writes [] (none_of (lent (goal.at.returns-then-s-eq0 c).In_ok-s) _ (le-leb _ _ c.if-out-s.false) (eq-eqb _ _ c.if-s-eq0.true)) refl refl

pub invariant_of-square : goal.invariant_of-square
invariant_of-square c =
    let w = lent (goal.at.invariant_of-square c).In_ok-s in
    record { within = (omega (arith, c.if-s-eq0.false), omega (arith, w.sized, w.bounded.size)) }

pub returns : goal.returns
returns c = wrote_same (some_of (lent (goal.at.returns c).In_ok-s) _ (le-leb _ _ c.if-out-s.false) (ne_eqb _ _ c.if-s-eq0.false)) c.roots_of.ensures
