-- `exports::intervals::cuts_into` meets its contract. Assumes nothing.
use Prim.Native.Nat.{◌*◌, ◌≤◌}
use mathlib.Core.List.{◌++◌}
use mathlib.Core.Path.{◌≡◌, refl}
use borrow.Author.Rules.{rules}
use borrow.Author.Tests.{le-leb}
use native.Mathlib.Omega.{arith}
use lib.ListN.{length, drop}
use lib.Seq.{length-take-le}
use Rattle.numbers.specs.Outcome.{gave}
use Rattle.numbers.proofs.OutcomeLaws.{bind_next}
use Rattle.subdivision.proofs.Bound.{few_intervals}
use Rattle.numbers.specs.Loops.{tab}
use Rattle.subdivision.specs.Subdivide.{subdivide_for}
use Rattle.exports.specs.Plans.{edge_at}
use Rattle.exports.specs.Intervals.{pairs_of, spread, cuts_for}
use Rattle.exports.proofs.CountLaws.{counted_one, tab-front}
use Rattle.exports.proofs.PlanLaws.{flat-take}
use Rattle.exports.proofs.intervals.cuts_into.Goals as goal

pub returns : goal.returns
unfolding cuts_for
returns c =
    let m = c.in_ok-made.made in
    let g : gave m ≡ subdivide_for c.args.x.now (pairs_of c.args.bands.now) = rw c.pairs_of.ensures at (c.in_ok-made.ensures) in
    let h : m.count ≤ length m.list = let q : length m.list ≡ 73 = search rules in omega (arith, q, (few_intervals _ _ m g).1) in
    let w : c.ends_into.new.out ≡ tab (edge_at m.list) (2 * m.count) 0 ++ drop (2 * m.count) c.args.out.now =
    rw (flat-take m.list m.count h, length-take-le m.count m.list h) at c.ends_into.ensures in
    rw (le-leb 1 (length c.args.counts.now) (search rules), le-leb 146 _ c.if-out-lt146.false)
    (counted_one m.count (tab (edge_at m.list) (2 * m.count) 0) _ (search rules) (bind_next (λ i. gave (spread i)) g refl) (tab-front _ _ _ w))
