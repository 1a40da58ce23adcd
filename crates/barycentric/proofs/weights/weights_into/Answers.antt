-- `barycentric::weights::weights_into` meets its contract. Assumes nothing.
use Rattle.barycentric.proofs.WeightLanes.{weights_are}
use Rattle.barycentric.proofs.weights.weights_into.Goals as goal

pub returns : goal.returns
returns c =
    let p = c in
    let s = p in
    weights_are s.args.x.now s.requires.room p.products.ensures c.reciprocals.ensures
