-- `roots::residual::Square::halve` meets its contract. Assumes nothing.
use mathlib.Core.Path.{refl, ap, sym, ◌∙◌}
use Rattle.roots.specs.Brackets.{low_end}
use Rattle.roots.proofs.BracketLaws.{halve_stop, halve_zero, halve_low, halve_high, halve_none}
use Rattle.roots.proofs.residual.Square.halve.Goals as goal
use Rattle.roots.proofs.residual.Square.halve.Goals.{then-are_opposite, else-are_opposite}

pub returns-then-not-is_finite : goal.returns-then-not-is_finite
returns-then-not-is_finite c =
    ap low_end
    (halve_stop _ _ _ _ _ _ _ _ _ c.loop-test.true c.loop.invariant refl c.residual-r.ensures
    (sym c.is_finite.ensures ∙ c.if-not-is_finite.true))

pub returns-then-r : goal.returns-then-r
returns-then-r c =
    ap low_end
    (halve_zero _ _ _ _ _ _ _ _ _ c.loop-test.true c.loop.invariant refl c.residual-r.ensures
    (sym c.is_finite.ensures ∙ c.if-not-is_finite.false) c.if-r.true)

pub loop-preserved : goal.loop-preserved
loop-preserved c =
    let f = sym c.is_finite.ensures ∙ c.if-not-is_finite.false in
    let e = c.if-r.false in
    let o = c.are_opposite.ensures in
    elim c.if-are_opposite.branch [
      | then-are_opposite w ↦ rw (w.b-is, w.q-is) (halve_low _ _ _ _ _ _ _ _ _ c.loop-test.true c.loop.invariant refl c.residual-r.ensures f e (sym o ∙ w.if-are_opposite.true))
      | else-are_opposite w ↦ rw (w.b-is, w.q-is) (halve_high _ _ _ _ _ _ _ _ _ c.loop-test.true c.loop.invariant refl c.residual-r.ensures f e (sym o ∙ w.if-are_opposite.false))
    ]

pub returns : goal.returns
returns c = ap low_end (halve_none _ _ _ _ _ _ _ c.loop-test.false c.loop.invariant)
