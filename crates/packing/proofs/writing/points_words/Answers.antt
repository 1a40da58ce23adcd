-- `packing::writing::points_words` meets its contract. Assumes nothing.
use Rattle.std.proofs.Common.{rules}
use Rattle.fields.proofs.ArrayLaws.{made_is}
use Rattle.packing.specs.Packing.{point_word}
use Rattle.packing.proofs.writing.points_words.Goals as goal

pub returns : goal.returns
returns c = made_is (point_word c.args.fields) c.from_fn.ensures.items (λ k y q p e. search rules)
