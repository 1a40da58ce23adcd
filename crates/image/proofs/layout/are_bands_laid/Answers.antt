-- `image::layout::are_bands_laid` meets its contract. Assumes nothing.
use Rattle.std.proofs.Common.{rules, refl}
use Rattle.fields.proofs.EveryLaws.{every_all}
use Rattle.image.specs.Image.{band_laid}
use Rattle.image.proofs.layout.are_bands_laid.Goals as goal

pub returns : goal.returns
returns c = every_all (band_laid c.args.s.now) c.args.n refl c.all.ensures.ran (λ x b q k. search rules)
