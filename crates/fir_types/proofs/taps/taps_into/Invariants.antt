use mathlib.Core.Path.{◌≡◌}
use lib.ListN.{length}
use Rattle.numbers.proofs.LoopLaws.{Going, put}
use Rattle.fir_types.specs.Taps.{tap_at, taps_of}
use Rattle.fir_types.proofs.taps.taps_into.Given as goal

abbrev pub invariant-loop-i : goal.invariant-loop-i
invariant-loop-i l = (length l.out ≡ length l.initial.out)
    × Going (put (tap_at l.symmetry (length l.initial.out) l.a)) (length l.initial.out) l.i l.out (taps_of l.symmetry (length l.initial.out) l.a)
