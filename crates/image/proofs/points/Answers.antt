-- `image::points` meets its contract. Assumes nothing.
use mathlib.Core.Path.{sym, ◌∙◌}
use native.Mathlib.Omega.{arith}
use Rattle.image.proofs.LayoutLaws.{layout_facts}
use Rattle.image.proofs.points.Goals as goal

pub slice_bounds-result-end-2 : goal.slice_bounds-result-end-2
slice_bounds-result-end-2 c =
    let f = layout_facts c.args.bytes.now (sym c.has_layout.ensures ∙ c.if-not-has_layout.false) in
    omega (arith, f.fits, c.points_in.ensures.value, c.count_in.ensures.0)
