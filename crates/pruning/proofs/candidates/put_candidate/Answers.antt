-- `pruning::candidates::put_candidate` meets its contract. Assumes nothing.
use native.Mathlib.Omega.{arith}
use Rattle.pruning.specs.Candidates.{raw_of, put}
use Rattle.pruning.proofs.ViewLaws.{put_out}
use Rattle.pruning.proofs.candidates.put_candidate.Goals as goal

pub returns-then-i-words : goal.returns-then-i-words
unfolding put
returns-then-i-words c =
    let p = c in
    rw (p.to_word.ensures, p.to_word-then-i-words.ensures) at p.put_raw.ensures

pub returns-else-i-words : goal.returns-else-i-words
unfolding put
returns-else-i-words c = let a = c.args in put_out a.words.now a.i (raw_of a.c) (omega arith)
