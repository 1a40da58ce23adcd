-- `barycentric::weights::compute_barycentric_weights` meets its contract. Assumes nothing.
use borrow.Author.Rules.{rules}
use Rattle.barycentric.proofs.WeightLanes.{products_begin}
use Rattle.barycentric.proofs.weights.compute_barycentric_weights.Goals as goal

pub weights_into-requires : goal.weights_into-requires
weights_into-requires c = products_begin c.args.x.now (search rules) (search rules)
