-- `image::writing::put_bytes` meets its contract. Assumes nothing.
use Rattle.std.proofs.Common.{rules, arith, length}
use mathlib.Core.Path.{◌≡◌, refl, ap, ◌∙◌}
use mathlib.Core.List.{append_assoc}
use native.Mathlib.Nat.{zero-add}
use lib.Seq.{sets}
use Rattle.image.specs.Image.{band_from, head_of, band_of, word_part, parts}
use Rattle.image.proofs.Laying.{part_words, Laid, laid_more, parts-length, words_length, band_length, head_length}
use Rattle.image.proofs.writing.put_bytes.Goals as goal

pub returns : goal.returns
returns c =
    let g = c.args in
    let w = g.w.now in
    let long : length w ≡ 137 = search rules in
    let h : Laid g.out.now 0 28 (head_of w) c.put_head.new.out = record { is = c.put_head.ensures; long = head_length w } in
    let n = laid_more (parts (band_of w) g.bands 0) h refl (parts-length (band_of w) 50 (band_length w) g.bands 0) c.put_bands.ensures in
    (laid_more (parts (word_part w 72 8) g.points 0) n (zero-add _) (words_length w 72 8 g.points) (part_words c.put_bands.new.out (band_from g.bands) w 72 8 g.points (omega arith) (omega (arith, long)) c.put_words.ensures)).is
    ∙ ap (sets g.out.now 0) (append_assoc (head_of w) (parts (band_of w) g.bands 0) (parts (word_part w 72 8) g.points 0))
