-- `packing::writing::bands_words` meets its contract. Assumes nothing.
use Rattle.std.proofs.Common.{rules, ◌/◌, ◌%◌}
use Rattle.fields.proofs.ArrayLaws.{made_is}
use Rattle.packing.specs.Packing.{bands_word}
use Rattle.packing.proofs.writing.bands_words.Goals as goal

pub returns : goal.returns
returns c = made_is (λ k. bands_word c.args.plan (k / 8) (k % 8)) c.from_fn.ensures.items (λ k y q p e. search rules)
