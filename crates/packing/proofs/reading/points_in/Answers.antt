-- `packing::reading::points_in` meets its contract. Assumes nothing.
use Rattle.std.proofs.Common.{rules}
use Rattle.fields.proofs.ArrayLaws.{made_is}
use Rattle.packing.specs.Packing.{number, point_at}
use Rattle.packing.proofs.reading.points_in.Goals as goal

pub returns : goal.returns
returns c = made_is (λ i. number c.args.words.now (point_at i)) c.from_fn.ensures.items (λ k y q p e. search rules)
