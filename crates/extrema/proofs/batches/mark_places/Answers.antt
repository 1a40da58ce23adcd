-- `extrema::batches::mark_places` meets its contract. Assumes nothing.
use mathlib.Core.Path.{sym, ap, ◌∙◌}
use mathlib.Core.List.{◌++◌}
use native.Mathlib.Omega.{arith}
use lib.Seq.{length-take-le}
use Rattle.pruning.specs.Candidates.{view}
use Rattle.extrema.proofs.BatchLaws.{zeros_finite, joined-zeros}
use Rattle.extrema.proofs.BatchStages.{marked_stop, marked_next}
use Rattle.extrema.proofs.batches.mark_places.Goals as goal

pub returns-then-not-all_finite : goal.returns-then-not-all_finite
returns-then-not-all_finite c = marked_stop _ (sym c.all_finite.ensures ∙ c.if-not-all_finite.true)

pub put_all-requires : goal.put_all-requires
put_all-requires c = (omega arith, length-take-le _ _ (omega arith), sym c.all_finite.ensures ∙ c.if-not-all_finite.false, zeros_finite _ 17)

pub returns : goal.returns
returns c = let a = c.args in
    marked_next _ (sym c.all_finite.ensures ∙ c.if-not-all_finite.false) (omega arith)
    (c.put_all.ensures.0 ∙ ap (λ z. view a.words.now a.n ++ z) (joined-zeros a.places.now 17 (omega arith)))
    c.put_all.ensures.1.long
