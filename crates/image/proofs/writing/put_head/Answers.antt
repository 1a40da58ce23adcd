-- `image::writing::put_head` meets its contract. Assumes nothing.
use Rattle.std.proofs.Common.{rules, arith, length}
use mathlib.Core.Path.{◌≡◌, refl}
use Rattle.image.specs.Bytes.{bytes_of}
use Rattle.image.specs.Image.{start_of, word_part, parts}
use Rattle.image.proofs.Laying.{part_words, Laid, laid_more, words_length}
use Rattle.image.proofs.writing.put_head.Goals as goal

pub returns : goal.returns
unfolding bytes_of parts
returns c =
    let g = c.args in
    let w = g.w.now in
    let long : length w ≡ 137 = search rules in
    let s : Laid g.out.now 0 8 (start_of w) c.put_start.new.out = record { is = c.put_start.ensures; long = refl } in
    let n = laid_more (parts (word_part w 2 1) 4 0) s refl (words_length w 2 1 4) (part_words c.put_start.new.out 8 w 2 1 4 refl (omega (arith, long)) c.put_words.ensures) in
    (laid_more (parts (word_part w 6 8) 2 0) n refl (words_length w 6 8 2) (part_words c.put_words.new.out 12 w 6 8 2 refl (omega (arith, long)) c.put_words-2.ensures)).is
