-- `image::reading::points_in` meets its contract. Assumes nothing.
use Rattle.std.proofs.Common.{rules}
use Rattle.fields.proofs.ArrayLaws.{made_is}
use Rattle.image.specs.Image.{point_word}
use Rattle.image.proofs.reading.points_in.Goals as goal

pub returns : goal.returns
returns c = made_is (point_word c.args.s.now) c.from_fn.ensures.items (λ k y q p e. search rules)
