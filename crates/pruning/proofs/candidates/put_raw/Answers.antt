-- `pruning::candidates::put_raw` meets its contract. Assumes nothing.
use native.Mathlib.Omega.{arith}
use Rattle.pruning.proofs.ViewLaws.{put_is}
use Rattle.pruning.proofs.candidates.put_raw.Goals as goal

pub returns : goal.returns
returns c = put_is c.args.words.now c.args.i c.args.r (omega arith)
