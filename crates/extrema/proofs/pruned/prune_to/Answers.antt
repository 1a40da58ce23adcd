-- `extrema::pruned::prune_to` meets its contract. Assumes nothing.
use mathlib.Core.Path.{◌≡◌, ◌∙◌}
use mathlib.Core.List.{map}
use native.Mathlib.Omega.{arith}
use lib.ListN.{length, take, replicate}
use lib.Seq.{length-take-le}
use Rattle.std.proofs.lemmas.Result.{err_from_is_err_and}
use Rattle.numbers.specs.Floats.{zero64}
use Rattle.numbers.proofs.OutcomeLaws.{bind_stop}
use Rattle.pruning.specs.Candidates.{view}
use Rattle.extrema.specs.Extrema.{error_of}
use Rattle.extrema.proofs.PrunedLaws.{read_front, kept_taken, kept_refused, sorted_room, sorted_kept}
use borrow.Author.Rules.{rules}
use Rattle.extrema.proofs.pruned.prune_to.Goals as goal

pub returns-in_err-prune_extrema_candidates : goal.returns-in_err-prune_extrema_candidates
returns-in_err-prune_extrema_candidates c =
    let a = c.args in
    let w = c.sort_candidates.new.words in
    let p = err_from_is_err_and c.from_residual.result c.from_residual.ensures.1 in
    let k : length (take a.count (replicate 1241 zero64)) ≡ a.count = length-take-le _ _ (omega arith) in
    let e : c.read_all.new.out ≡ map error_of (view w a.count) = (rw k at (c.read_all.ensures error_of (λ k x e. search rules))) ∙ read_front error_of w a.count (sorted_room _ _ _ c.sort_candidates.ensures (search rules)) in
    rw (p.1, p.2) (bind_stop _ (kept_refused w a.count a.n _ e _ _ (length-take-le _ _ (omega arith)) c.prune_extrema_candidates.ensures c.in_err-prune_extrema_candidates.was ∙ sorted_kept _ _ _ c.sort_candidates.ensures a.n))

pub returns : goal.returns
returns c =
    let a = c.args in
    let w = c.sort_candidates.new.words in
    let r = sorted_room _ _ _ c.sort_candidates.ensures (search rules) in
    let k : length (take a.count (replicate 1241 zero64)) ≡ a.count = length-take-le _ _ (omega arith) in
    let e : c.read_all.new.out ≡ map error_of (view w a.count) = (rw k at (c.read_all.ensures error_of (λ k x e. search rules))) ∙ read_front error_of w a.count r in
    rw c.chosen_from.ensures
    (let g = kept_taken w a.count a.n _ e _ _ (length-take-le _ _ (omega arith)) r (search rules) c.prune_extrema_candidates.ensures c.in_ok-prune_extrema_candidates.was ∙ sorted_kept _ _ _ c.sort_candidates.ensures a.n in
    rw (← g))
