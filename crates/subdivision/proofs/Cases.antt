-- Document 01's starred case of the subdivision holds, computed; a list, so that it joins those of the other leaves. Assumes nothing.
use mathlib.Core.Path.{refl}
use mathlib.Core.List.{List, [], ◌∷◌}
use lib.Ieee.{of_bits, neg, lt, eq}
use Rattle.numbers.specs.Cases.{Case, Agree, none, also}
use Rattle.numbers.specs.Floats.{one64, all_finite}
use Rattle.numbers.specs.Loops.{tab, until}
use Rattle.numbers.specs.Outcome.{Outcome, gave}
use Rattle.angles.specs.Constants.{half}
use Rattle.fir_types.specs.Edges.{interval}
use Rattle.fir_types.specs.Edges as edges
use Rattle.fir_types.specs.Taps.{quarter}
use Rattle.subdivision.specs.Subdivide.{Intervals}
use Rattle.subdivision.specs.Subdivide.{cut_band, cut_bands, subdivided, subdivide_for, packed}

abbrev pub cases : List Case
cases =
    record {
      Answer = Outcome Intervals;
      gives =
          subdivide_for (one64 ∷ half ∷ quarter ∷ neg quarter ∷ neg one64 ∷ [])
          (edges.packed (interval (neg one64) (neg quarter) ∷ interval quarter one64 ∷ []));
      says = gave (packed (interval (neg one64) (neg quarter) ∷ interval quarter half ∷ interval half one64 ∷ []));
    }
    ∷ []

pub starred : Agree cases
unfolding subdivide_for subdivided cut_bands cut_band all_finite until tab of_bits neg lt eq
starred = also refl none
