-- `pruning::candidates::candidate_at` meets its contract. Assumes nothing.
use native.Mathlib.Omega.{arith}
use Rattle.pruning.proofs.ViewLaws.{read_is, read_out}
use Rattle.pruning.proofs.candidates.candidate_at.Goals as goal

pub returns-then-i-words : goal.returns-then-i-words
returns-then-i-words c =
    let a = c.args in
    rw (c.of_word.ensures, c.of_word-then-i-words.ensures, c.raw_at-r.ensures) (read_is a.words.now a.i)

pub returns : goal.returns
returns c = let a = c.args in read_out a.words.now a.i (omega arith)
