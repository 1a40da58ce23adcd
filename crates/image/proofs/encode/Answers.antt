-- `image::encode` meets its contract. Assumes nothing.
use Prim.Native.Nat.{◌≤◌}
use mathlib.Core.Path.{◌≡◌, ◌∙◌}
use native.Mathlib.Omega.{arith}
use borrow.Author.Tests.{le-leb, lt-leb}
use lib.ListN.{length}
use lib.Seq.{sets}
use Rattle.numbers.proofs.OutcomeLaws.{writes, writes_none}
use Rattle.image.specs.Image.{image_of, save_for}
use Rattle.image.proofs.SavedLaws.{image_length, image_most, in_front, saved}
use Rattle.image.proofs.encode.Goals as goal

pub returns-then-out-lt-BYTES : goal.returns-then-out-lt-BYTES
unfolding save_for
returns-then-out-lt-BYTES c = writes_none (rw (lt-leb 948 _ c.if-out-lt-BYTES.true))

pub returns : goal.returns
unfolding save_for
returns c =
    let g = c.args in
    let j = g.fields in
    let bands = c.few_bands-bands.ensures.0 in
    let points = c.few_points-points.ensures.0 in
    let room : length (image_of j) ≤ length g.out.now = omega (arith, image_most j, c.if-out-lt-BYTES.false) in
    let is : c.put_bytes.new.out ≡ sets g.out.now 0 (image_of j) = c.put_bytes.ensures ∙ saved g.out.now j c.pack-words.ensures bands points in
    writes (image_of j) (rw (le-leb 948 _ c.if-out-lt-BYTES.false)) (image_length j ∙ rw (bands, points)) (is ∙ in_front (image_of j) g.out.now room)
