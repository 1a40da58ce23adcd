-- `pruning::candidates::raw_at` meets its contract. Assumes nothing.
use native.Mathlib.Omega.{arith}
use Rattle.pruning.proofs.ViewLaws.{raw_is}
use Rattle.pruning.proofs.candidates.raw_at.Goals as goal

pub returns : goal.returns
returns c = let a = c.args in raw_is a.words.now a.i (omega arith)
