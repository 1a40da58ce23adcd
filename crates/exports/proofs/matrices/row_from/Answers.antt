-- `exports::matrices::row_from` meets its contract. Assumes nothing.
use mathlib.Core.Path.{◌≡◌}
use borrow.Author.Rules.{rules}
use Rattle.exports.specs.Matrices.{entry_from, row_from}
use Rattle.exports.proofs.ArrayLaws.{made_by}
use Rattle.exports.proofs.matrices.row_from.Goals as goal

pub returns : goal.returns
returns c =
    let a = c.args in
    let e : c.from_fn.result ≡ row_from a.entries.now a.s a.i =
    made_by _ _ (entry_from a.entries.now a.s a.i) (λ q i y k. (search rules, search rules)) _ _ c.from_fn.ensures.items in
    rw e
