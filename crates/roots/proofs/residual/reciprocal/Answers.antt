-- `roots::residual::reciprocal` meets its contract. Assumes nothing.
use lib.Dec.{T}
use lib.Ieee.{binary64, fits}
use Rattle.roots.proofs.ReciprocalLaws.{reciprocal_is}
use borrow.Author.Rules.{rules}
use Rattle.roots.proofs.residual.reciprocal.Goals as goal

pub returns : goal.returns
returns c =
    let w = c.to_word-w in
    let f : T (fits binary64 c.args.x) = search rules in
    rw c.of_word.ensures
    (reciprocal_is _ w.result f w.ensures c.if-w-ne0.false c.if-e-lt1.false c.if-e-gt2045.false)
