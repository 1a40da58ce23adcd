-- The lookup of a desired value and a weight at a frequency f (document 01, "Numbers that bound the work"). It uses the bands as
-- given, not as adjusted.
use Rattle.std.specs.Prelude.{ℕ, ◌-◌, min, not, get_or, Float}
use Rattle.std.specs.Float.{nan}
use Rattle.std.specs.Float.Ieee.{lt}
use Rattle.numbers.specs.Floats.{clamp}
use Rattle.numbers.specs.Operations.{◌⊕◌, ◌⊖◌, ◌⊗◌, ◌⊘◌}
use Rattle.numbers.specs.Loops.{until}
use Rattle.bands.specs.declared.Value.{Value}
use Rattle.bands.specs.declared.Value.TheVariants.{Constant, Linear}
use Rattle.bands.specs.declared.Band.{Band}
use Rattle.bands.specs.declared.Plan.{Plan}

-- as many bands as the plan says, and no more than it holds
abbrev pub many : Plan → ℕ
many p = min p.count 8

abbrev pub no_band : Band
no_band = record { begin = nan; end = nan; desired = Constant nan; weight = Constant nan }

abbrev pub band_of : Plan → ℕ → Band
band_of p i = get_or p.bands i no_band

-- the first band whose end is not below f, else the last
unfoldable pub lookup : Plan → Float → Band
lookup p f = until (λ i. not (lt (band_of p i).end f)) (band_of p) (λ i s. s) (λ s. band_of p (many p - 1)) (many p) 0 (tt {0})

-- between begin and end, at f
abbrev pub value_at : Value → Float → Float → Float → Float
value_at (Constant v) begin end f = v
value_at (Linear v0 v1) begin end f = v0 ⊕ (v1 ⊖ v0) ⊗ ((f ⊖ begin) ⊘ (end ⊖ begin))

-- f is clamped to the band that is taken
unfoldable pub desired_at : Plan → Float → Float
desired_at p f = let b = lookup p f in value_at b.desired b.begin b.end (clamp b.begin b.end f)

unfoldable pub weight_at : Plan → Float → Float
weight_at p f = let b = lookup p f in value_at b.weight b.begin b.end (clamp b.begin b.end f)
