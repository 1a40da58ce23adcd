-- `packing::reading::plan_in` meets its contract. Assumes nothing.
use Rattle.std.proofs.Common.{rules}
use Rattle.fields.proofs.ArrayLaws.{made_is}
use Rattle.packing.specs.Packing.{band_in}
use Rattle.packing.proofs.reading.plan_in.Goals as goal

pub returns : goal.returns
returns c = let bands = made_is (band_in c.args.words.now) c.from_fn.ensures.items (λ k y q p e. search rules) in rw bands (search rules)
