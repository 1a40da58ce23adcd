use mathlib.Core.Path.{◌≡◌}
use lib.ListN.{length}
use lib.Seq.{sets}
use Rattle.image.specs.Image.{band_of, parts}
use Rattle.image.proofs.Laying.{Parting}
use Rattle.image.proofs.writing.put_bands.Given as goal

abbrev pub invariant-loop-i : goal.invariant-loop-i
invariant-loop-i l = (length l.out ≡ length l.initial.out) × Parting (band_of l.w) 50 28 l.n l.i l.out (sets l.initial.out 28 (parts (band_of l.w) l.n 0))
