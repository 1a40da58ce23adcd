-- `subdivision::first::points_into` meets its contract. Assumes nothing.
use Prim.Native.Nat.{◌<◌}
use native.Mathlib.Omega.{arith}
use lib.ListN.{length-set}
use Rattle.numbers.proofs.Fronts.{write_end}
use Rattle.subdivision.proofs.WalkLaws.{walked_within, points_write, points_end}
use borrow.Author.Rules.{rules}
use Rattle.subdivision.proofs.first.points_into.Goals as goal

pub point_at-requires : goal.point_at-requires
point_at-requires c =
    let h : c.walk_on-w.result.band < c.args.bands.count = rw c.walk_on-w.ensures (walked_within _ _ _ _ c.loop-j.invariant.2) in
    search rules

pub loop-j-preserved : goal.loop-j-preserved
loop-j-preserved c =
    let v = c.loop-j.invariant in (
      simp length-set v.0,
      search rules,
      rw c.walk_on-w.ensures (walked_within _ _ _ _ v.2),
      points_write _ _ _ _ _ _ _ _ _ _ v.3 c.loop-j-test.true (search rules)
          (rw c.whole.ensures) c.walk_on-w.ensures c.point_at.ensures,
    )

pub returns : goal.returns
returns c =
    write_end (rw (points_end _ _ _ _ _ c.loop-j-test.false) at c.loop-j.invariant.3) (omega arith)
