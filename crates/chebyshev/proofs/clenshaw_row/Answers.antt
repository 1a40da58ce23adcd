-- `chebyshev::clenshaw_row` meets its contract. Assumes nothing.
use mathlib.Core.Path.{◌≡◌, ap, sym, ◌∙◌}
use native.Mathlib.Omega.{arith}
use lib.ListN.{set, length, get_or, length-set}
use lib.Ieee.{nan}
use Rattle.numbers.proofs.LoopLaws.{next, end}
use Rattle.numbers.proofs.InPlace.{change_start, zip_length, zip_get, zip_set}
use Rattle.chebyshev.specs.Places.{pair, pairs, no_pair, turn}
use Rattle.chebyshev.proofs.clenshaw_row.Goals as goal

pub loop-k-init : goal.loop-k-init
loop-k-init c =
    let a = c.args in
    let h : length a.b1.now ≡ length a.b2.now = omega (arith, c.requires.0, c.requires.1) in (
      c.requires.0,
      c.requires.1,
      change_start (λ k. turn (get_or a.x.now k nan) a.ak) no_pair _ _ (sym (zip_length pair a.b1.now a.b2.now h ∙ c.requires.0)),
    )

pub loop-k-preserved : goal.loop-k-preserved
loop-k-preserved c =
    let l = c.loop-k in
    let a = c.args in (
      simp length-set l.invariant.0,
      simp length-set l.invariant.1,
      next l.invariant.2 c.loop-k-test.true
          (zip_set pair l.b1 l.b2 l.k c.clenshaw_step-s.result.b1 c.clenshaw_step-s.result.b2
          ∙ ap (set (pairs l.b1 l.b2) l.k)
          (c.clenshaw_step-s.ensures
          ∙ ap (turn (get_or a.x.now l.k nan) a.ak) (sym (zip_get pair l.b1 l.b2 l.k nan nan no_pair (omega arith) (omega arith))))),
    )

pub returns : goal.returns
returns c = end c.loop-k.invariant.2 c.loop-k-test.false
