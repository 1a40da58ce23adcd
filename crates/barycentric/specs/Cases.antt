-- Document 01's starred cases of these leaves.
use Rattle.std.specs.Prelude.{List, [], ◌∷◌, Float}
use Rattle.std.specs.Float.{binary64}
use Rattle.std.specs.Float.Ieee.{of_bits, neg}
use Rattle.numbers.specs.Floats.{zero64, one64}
use Rattle.numbers.specs.Cases.{Case}
use Rattle.numbers.specs.Outcome.{Outcome, gave}
use Rattle.barycentric.specs.Weights.{weights_for}
use Rattle.barycentric.specs.Delta.{delta_for}
use Rattle.barycentric.specs.Abscissas.{abscissas_for}
use Rattle.barycentric.specs.Response.{response_for}

abbrev half : Float
half = of_bits binary64 0x3fe0_0000_0000_0000

abbrev quarter : Float
quarter = of_bits binary64 0x3fd0_0000_0000_0000

abbrev points : List Float
points = one64 ∷ neg one64 ∷ []

abbrev weights : List Float
weights = quarter ∷ neg quarter ∷ []

abbrev pub cases : List Case
cases =
    record { Answer = Outcome (List Float); gives = weights_for points 2; says = gave weights }
    ∷ record { Answer = Outcome Float; gives = delta_for weights (one64 ∷ zero64 ∷ []) (one64 ∷ one64 ∷ []); says = gave half }
    ∷ record {
      Answer = Outcome (List Float);
      gives = abscissas_for half (one64 ∷ zero64 ∷ []) (one64 ∷ one64 ∷ []) 2;
      says = gave (half ∷ half ∷ []);
    }
    ∷ record { Answer = Outcome Float; gives = response_for zero64 points weights (half ∷ half ∷ []); says = gave half }
    ∷ []
