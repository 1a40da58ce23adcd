-- `chebyshev::halve_first_and_last` meets its contract. Assumes nothing.
use Rattle.chebyshev.proofs.Halves.{halved}
use Rattle.chebyshev.proofs.halve_first_and_last.Goals as goal

pub returns : goal.returns
returns c = halved c.args.a.now c.requires
