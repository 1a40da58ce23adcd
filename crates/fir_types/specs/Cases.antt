-- Document 01's starred cases of the taps.
use Rattle.std.specs.Prelude.{List, [], ◌∷◌, Float}
use Rattle.std.specs.Float.{binary64}
use Rattle.std.specs.Float.Ieee.{of_bits, neg}
use Rattle.numbers.specs.Cases.{Case}
use Rattle.numbers.specs.Floats.{zero64, one64}
use Rattle.numbers.specs.Outcome.{Outcome, gave}
use Rattle.angles.specs.Constants.{half, two}
use Rattle.bands.specs.declared.Symmetry.TheVariants.{Even, Odd}
use Rattle.fir_types.specs.Taps.{taps_for}

abbrev four : Float
four = of_bits binary64 0x4010_0000_0000_0000

abbrev pub cases : List Case
cases =
    record { Answer = Outcome (List Float); gives = taps_for (one64 ∷ two ∷ []) 4 Even 4; says = gave (half ∷ one64 ∷ one64 ∷ half ∷ []) }
    ∷ record {
      Answer = Outcome (List Float);
      gives = taps_for (one64 ∷ two ∷ []) 4 Odd 4;
      says = gave (half ∷ zero64 ∷ neg zero64 ∷ neg half ∷ []);
    }
    ∷ record {
      Answer = Outcome (List Float);
      gives = taps_for (one64 ∷ two ∷ four ∷ []) 7 Odd 7;
      says = gave (one64 ∷ half ∷ neg half ∷ zero64 ∷ half ∷ neg half ∷ neg one64 ∷ []);
    }
    ∷ []
