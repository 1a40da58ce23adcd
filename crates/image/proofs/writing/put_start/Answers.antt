-- `image::writing::put_start` meets its contract. Assumes nothing.
use mathlib.Core.Path.{refl}
use Rattle.packing.specs.Packing.{at}
use Rattle.image.specs.Bytes.{bytes_of}
use Rattle.image.specs.Image.{mark}
use Rattle.image.proofs.BytesLaws.{bytes_length}
use Rattle.image.proofs.Laying.{Laid, laid_more}
use Rattle.image.proofs.writing.put_start.Goals as goal

pub returns : goal.returns
unfolding bytes_of
returns c =
    let g = c.args in
    let w = g.w.now in
    let m : Laid g.out.now 0 3 mark c.put_mark.new.out = record { is = c.put_mark.ensures; long = refl } in
    let v = laid_more (bytes_of 2 1) m refl (bytes_length 2 1) c.put.ensures in
    let s = laid_more (bytes_of 1 (at w 0)) v refl (bytes_length 1 (at w 0)) c.put-2.ensures in
    (laid_more (bytes_of 2 (at w 1)) s refl (bytes_length 2 (at w 1)) c.put-3.ensures).is
