-- The starred cases of the taps hold, all of the list; each is computed. Assumes nothing.
use mathlib.Core.Path.{refl}
use lib.Ieee.{of_bits, neg, add, sub, mul}
use Rattle.numbers.specs.Cases.{Agree, none, also}
use Rattle.numbers.specs.Floats.{all_finite}
use Rattle.numbers.specs.Loops.{tab}
use Rattle.fir_types.specs.Taps.{taps_of, taps_for}
use Rattle.fir_types.specs.Cases.{cases}

pub starred : Agree cases
unfolding taps_for taps_of all_finite tab of_bits neg add sub mul
starred = also refl (also refl (also refl none))
