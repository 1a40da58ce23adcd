-- `chebyshev::clenshaw` meets its contract. Assumes nothing.
use mathlib.Core.Path.{◌≡◌, ◌∙◌}
use native.Mathlib.Omega.{arith}
use borrow.Author.Rules.{rules}
use lib.Seq.{length_front, length-take-le}
use lib.ListN.{length, take}
use Rattle.numbers.proofs.LoopLaws.{next, end}
use Rattle.chebyshev.proofs.Sums.{turn_back, places_end}
use Rattle.chebyshev.proofs.clenshaw.Goals as goal

pub loop-t-preserved : goal.loop-t-preserved
loop-t-preserved c =
    let r = c.clenshaw_row in
    let turn = c in
    let l = turn.loop-t in
    let x = turn.args.x.now in
    let p : length r.new.b1 ≡ length (take (length x) l.b1) = search rules in
    let q : length r.new.b2 ≡ length (take (length x) l.b2) = search rules in (
      length_front l.b1 r.new.b1 (length x) p ∙ l.invariant.0,
      length_front l.b2 r.new.b2 (length x) q ∙ l.invariant.1,
      next l.invariant.2 (omega arith)
          (turn_back (length x) _ _ l.b1 l.b2 _ (p ∙ length-take-le _ _ (omega arith)) (q ∙ length-take-le _ _ (omega arith)) r.ensures),
    )

pub returns : goal.returns
returns c =
    let ends = c in
    let n = ends in
    let turned = n in
    let g = turned.args in
    ends.clenshaw_ends.ensures
    ∙ places_end g.a.now g.x.now _ _ _ (omega arith) (length-take-le _ _ (omega arith)) (length-take-le _ _ (omega arith))
    (end turned.loop-t.invariant.2 (omega arith)) n.whole.ensures
