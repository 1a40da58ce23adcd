-- `extrema::search` meets its contract. Assumes nothing.
use Prim.Native.Nat.{◌+◌}
use mathlib.Core.Path.{◌≡◌, ap, ◌∙◌}
use native.Mathlib.Omega.{arith}
use lib.ListN.{length, take, replicate}
use lib.Seq.{length-take-le}
use Rattle.std.proofs.lemmas.Result.{err_from_is_err_and}
use Rattle.numbers.proofs.OutcomeLaws.{bind_stop}
use Rattle.numbers.specs.Floats.{zero64}
use Rattle.numbers.specs.Outcome.{gave, bind}
use Rattle.extrema.specs.Errors.{curve_of}
use Rattle.extrema.specs.Extrema.{packed}
use Rattle.extrema.proofs.ErrorLaws.{filled_whole}
use Rattle.extrema.proofs.ExtremaLaws.{searched, nodes_refused}
use borrow.Author.Rules.{rules}
use Rattle.extrema.proofs.search.Goals as goal

pub returns-in_err-chebyshev_nodes : goal.returns-in_err-chebyshev_nodes
returns-in_err-chebyshev_nodes c =
    let p = err_from_is_err_and c.from_residual.result c.from_residual.ensures.1 in
    let k : length (take (c.args.degree + 1) (replicate 17 zero64)) ≡ c.args.degree + 1 = length-take-le _ _ (omega arith) in
    rw (p.1, p.2) (bind_stop _ (nodes_refused _ _ _ _ (omega arith) (omega arith) (omega arith) (omega arith) (rw k at c.in_err-chebyshev_nodes.ensures.is)))

pub returns : goal.returns
returns c =
    let g = c.args in
    let k : length (take (g.degree + 1) (replicate 17 zero64)) ≡ g.degree + 1 = length-take-le _ _ (omega arith) in
    let s = searched (curve_of g.curve) g.intervals g.degree g.n _ (omega arith) (omega arith) (omega arith) (omega arith)
    (rw k at (filled_whole c.chebyshev_nodes.ensures (search rules) c.in_ok-chebyshev_nodes.was)) in
    c.collect.ensures ∙ ap (λ o. bind o (λ l. gave (packed l))) s
