-- `image::writing::put_band` meets its contract. Assumes nothing.
use Prim.Native.Nat.{◌+◌}
use Rattle.std.proofs.Common.{rules, arith, length}
use mathlib.Core.Path.{◌≡◌, refl, sym, ap, ◌∙◌}
use lib.Seq.{sets}
use Rattle.packing.specs.Packing.{band_at}
use Rattle.image.specs.Image.{band_from, word_part, parts}
use Rattle.image.proofs.Laying.{part_words, Laid, laid_more, words_length, band_parts}
use Rattle.image.proofs.writing.put_band.Goals as goal

pub returns : goal.returns
returns c =
    let g = c.args in
    let w = g.w.now in
    let long : length w ≡ 137 = search rules in
    let k = band_at g.i in
    let s : Laid g.out.now (band_from g.i) 2 (parts (word_part w k 1) 2 0) c.put_words.new.out =
    record { is = part_words g.out.now (band_from g.i) w k 1 2 (omega arith) (omega (arith, long)) c.put_words.ensures; long = words_length w k 1 2 } in
    (laid_more (parts (word_part w (k + 2) 8) 6 0) s refl (words_length w (k + 2) 8 6) (part_words c.put_words.new.out (band_from g.i + 2) w (k + 2) 8 6 (omega arith) (omega (arith, long)) c.put_words-2.ensures)).is
    ∙ ap (sets g.out.now (band_from g.i)) (sym (band_parts w g.i))
