-- Sine and cosine on 0 to 3.25 (document 01, item 1): outside, and for a NaN, refusal 9; -0.0 is inside.
use Rattle.std.specs.Prelude.{Bool, cond, false, Float}
use Rattle.std.specs.Float.Ieee.{le, neg}
use Rattle.numbers.specs.Floats.{zero64, one64, clamp}
use Rattle.numbers.specs.Operations.{◌⊕◌, ◌⊖◌}
use Rattle.numbers.specs.Outcome.{Outcome, gave, unless}
use Rattle.angles.specs.Constants.{pi, pi_tail, half_pi, half_pi_tail, quarter_pi, three_quarters_pi, widest}
use Rattle.angles.specs.Series.{sine_part, cosine_part}

unfoldable pub taken : Float → Bool
taken x = cond (le zero64 x) (le x widest) false

-- what is left to a right angle, and to a straight one
abbrev pub from_half : Float → Float
from_half x = (half_pi ⊖ x) ⊕ half_pi_tail

abbrev pub from_pi : Float → Float
from_pi x = (pi ⊖ x) ⊕ pi_tail

unfoldable pub cosine_at : Float → Float
cosine_at x =
    cond (le x quarter_pi) (cosine_part x) (cond (le x three_quarters_pi) (sine_part (from_half x)) (zero64 ⊖ cosine_part (from_pi x)))

unfoldable pub sine_at : Float → Float
sine_at x = cond (le x quarter_pi) (sine_part x) (cond (le x three_quarters_pi) (cosine_part (from_half x)) (sine_part (from_pi x)))

-- what the last roundings might leave outside -1 to 1 is brought back
unfoldable pub cosine_of : Float → Outcome Float
cosine_of x = unless (taken x) 9 (gave (clamp (neg one64) one64 (cosine_at x)))

unfoldable pub sine_of : Float → Outcome Float
sine_of x = unless (taken x) 9 (gave (clamp (neg one64) one64 (sine_at x)))
