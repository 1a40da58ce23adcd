-- `chebyshev::chebyshev_nodes` meets its contract. Assumes nothing.
use native.Mathlib.Omega.{arith}
use Rattle.chebyshev.proofs.NodeLaws.{nodes_filled}
use Rattle.chebyshev.proofs.chebyshev_nodes.Goals as goal

pub returns : goal.returns
returns c = nodes_filled _ _ _ _ _ _ c.needed_list.ensures (omega arith) (omega arith) (omega arith) c.in_ok-node_cosines.ensures
