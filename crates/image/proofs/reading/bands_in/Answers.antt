-- `image::reading::bands_in` meets its contract. Assumes nothing.
use Rattle.std.proofs.Common.{rules, ◌/◌, ◌%◌}
use Rattle.fields.proofs.ArrayLaws.{made_is}
use Rattle.image.specs.Image.{band_word}
use Rattle.image.proofs.reading.bands_in.Goals as goal

pub returns : goal.returns
returns c = made_is (λ k. band_word c.args.s.now (k / 8) (k % 8)) c.from_fn.ensures.items (λ k y q p e. search rules)
