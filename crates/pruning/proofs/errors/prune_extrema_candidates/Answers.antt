-- `pruning::errors::prune_extrema_candidates` meets its contract. Assumes nothing.
use mathlib.Core.Path.{sym, ◌∙◌}
use Rattle.numbers.proofs.OutcomeLaws.{fills_none}
use Rattle.pruning.specs.Errors.{prune_for}
use Rattle.pruning.proofs.errors.prune_extrema_candidates.Goals as goal

pub returns-then-not-is_sized : goal.returns-then-not-is_sized
unfolding prune_for
returns-then-not-is_sized c = fills_none (rw (sym c.is_sized.ensures ∙ c.if-not-is_sized.true))

pub returns-then-not-all_finite : goal.returns-then-not-all_finite
unfolding prune_for
returns-then-not-all_finite c =
    fills_none
    (rw (
      sym c.is_sized.ensures ∙ c.if-not-is_sized.false,
      sym c.all_finite.ensures ∙ c.if-not-all_finite.true,
    ))

pub returns : goal.returns
unfolding prune_for
returns c =
    let s = c in
    rw (
      sym s.is_sized.ensures ∙ s.if-not-is_sized.false,
      sym s.all_finite.ensures ∙ s.if-not-all_finite.false,
    )
    c.prune_finite.ensures
