-- The desired value and the weight at an angle f in radians, adjusted to the type: the value over, and the weight times, what the
-- type's factor is there. 9 where f or the result is not finite, or an angle lies outside its domain.
use Rattle.std.specs.Prelude.{Bool, true, false, Float}
use Rattle.std.specs.Float.Ieee.Scale.{finite}
use Rattle.numbers.specs.Operations.{◌⊗◌, ◌⊘◌}
use Rattle.numbers.specs.Outcome.{Outcome, bind, unless, needed_of}
use Rattle.angles.specs.Constants.{half}
use Rattle.angles.specs.Turns.{cosine_of, sine_of}
use Rattle.bands.specs.declared.Symmetry.{Symmetry}
use Rattle.bands.specs.declared.Symmetry.TheVariants.{Even, Odd}
use Rattle.bands.specs.declared.Plan.{Plan}
use Rattle.bands.specs.Lookup.{desired_at, weight_at}
use Rattle.bands.specs.Rules.{plan_holds}
use Rattle.fir_types.specs.Kinds.{tau}

-- a value joined with the factor: even symmetry with odd taps has none; the others cos (f / 2), sin (f / 2), sin f
abbrev pub adjusted_by : (Float → Float → Float) → Symmetry → Bool → Float → Float → Outcome Float
adjusted_by by Even true f v = needed_of v
adjusted_by by Even false f v = bind (cosine_of (half ⊗ f)) (λ c. needed_of (by v c))
adjusted_by by Odd false f v = bind (sine_of (half ⊗ f)) (λ c. needed_of (by v c))
adjusted_by by Odd true f v = bind (sine_of f) (λ c. needed_of (by v c))

abbrev pub desired_in : Symmetry → Bool → Float → Float → Outcome Float
desired_in = adjusted_by (λ d c. d ⊘ c)

abbrev pub weight_in : Symmetry → Bool → Float → Float → Outcome Float
weight_in = adjusted_by (λ w c. w ⊗ c)

-- the table is read at f / TAU, in cycles per sample
unfoldable pub adjusted_desired : Plan → Symmetry → Bool → Float → Outcome Float
adjusted_desired p s odd f = unless (finite f) 9 (desired_in s odd f (desired_at p (f ⊘ tau)))

unfoldable pub adjusted_weight : Plan → Symmetry → Bool → Float → Outcome Float
adjusted_weight p s odd f = unless (finite f) 9 (weight_in s odd f (weight_at p (f ⊘ tau)))

-- as leaves: 6 for a plan that breaks the rules for bands
unfoldable pub adjusted_desired_for : Plan → Symmetry → Bool → Float → Outcome Float
adjusted_desired_for p s odd f = unless (plan_holds p) 6 (adjusted_desired p s odd f)

unfoldable pub adjusted_weight_for : Plan → Symmetry → Bool → Float → Outcome Float
adjusted_weight_for p s odd f = unless (plan_holds p) 6 (adjusted_weight p s odd f)
