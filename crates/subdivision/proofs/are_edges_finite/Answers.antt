-- `subdivision::are_edges_finite` meets its contract. Assumes nothing.
use Rattle.std.proofs.Common.{rules}
use Rattle.subdivision.proofs.EdgeLaws.{edges_are}
use Rattle.subdivision.proofs.are_edges_finite.Goals as goal

pub returns : goal.returns
returns c = edges_are c.args.bands _ (search rules) (search rules) (search rules)
