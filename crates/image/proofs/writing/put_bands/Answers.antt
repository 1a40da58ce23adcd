-- `image::writing::put_bands` meets its contract. Assumes nothing.
use mathlib.Core.Path.{◌∙◌}
use Rattle.image.proofs.Laying.{part_next, part_end, band_length}
use Rattle.image.proofs.writing.put_bands.Goals as goal

pub loop-i-preserved : goal.loop-i-preserved
loop-i-preserved c =
    let l = c.loop-i in
    let p = c.put_band in
    (p.auto.out ∙ l.invariant.0, part_next l.invariant.1 c.loop-i-test.true (band_length c.args.w.now l.i) p.ensures)

pub returns : goal.returns
returns c = part_end c.loop-i.invariant.1 c.loop-i-test.false
