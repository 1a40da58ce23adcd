use Prim.Native.Nat.{◌-◌, ◌<◌, ◌≤◌}
use mathlib.Core.Path.{◌≡◌}
use mathlib.Core.List.{◌++◌}
use lib.ListN.{length, drop}
use Rattle.numbers.proofs.Fronts.{Writing}
use Rattle.subdivision.specs.First.{points_from, at_start}
use Rattle.subdivision.proofs.first.points_into.Given as goal

abbrev pub invariant-loop-j : goal.invariant-loop-j
invariant-loop-j l = (length l.out ≡ length l.initial.out)
    × (l.j ≤ l.n)
    × (l.w.band < l.bands.count)
    × Writing l.n l.j l.out (points_from l.bands l.spacing (l.n - l.j) l.j l.w) (points_from l.bands l.spacing l.n 0 at_start ++ drop l.n l.initial.out)
