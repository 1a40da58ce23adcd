-- `image::writing::put_words` meets its contract. Assumes nothing.
use mathlib.Core.Path.{◌∙◌}
use native.Mathlib.Nat.{zero-add}
use Rattle.image.proofs.BytesLaws.{bytes_length}
use Rattle.image.proofs.Laying.{part_next, part_end}
use Rattle.image.proofs.writing.put_words.Goals as goal

pub loop-i-preserved : goal.loop-i-preserved
loop-i-preserved c =
    let l = c.loop-i in
    let p = c.put in (
      p.auto.out ∙ l.invariant.0,
      part_next l.invariant.1 c.loop-i-test.true (bytes_length _ _) (rw zero-add p.ensures),
    )

pub returns : goal.returns
returns c = part_end c.loop-i.invariant.1 c.loop-i-test.false
