-- The rules of refusal 6 (document 01, "Numbers that bound the work").
use Rattle.std.specs.Prelude.{ℕ, ◌+◌, Bool, true, ◌&&◌, cond, leb, ltb, Float}
use Rattle.std.specs.Float.{binary64}
use Rattle.std.specs.Float.Ieee.{of_bits, lt, le}
use Rattle.std.specs.Float.Ieee.Scale.{finite}
use Rattle.numbers.specs.Floats.{zero64}
use Rattle.numbers.specs.Loops.{every}
use Rattle.numbers.specs.Outcome.{Outcome, gave, unless}
use Rattle.bands.specs.declared.Value.{Value}
use Rattle.bands.specs.declared.Value.TheVariants.{Constant, Linear}
use Rattle.bands.specs.declared.Band.{Band}
use Rattle.bands.specs.declared.Plan.{Plan}
use Rattle.bands.specs.Lookup.{band_of}

abbrev pub value_finite : Value → Bool
value_finite (Constant a) = finite a
value_finite (Linear a b) = finite a && finite b

abbrev pub value_positive : Value → Bool
value_positive (Constant a) = lt zero64 a
value_positive (Linear a b) = lt zero64 a && lt zero64 b

-- 0 <= begin < end <= 0.5
abbrev pub placed : Float → Float → Bool
placed begin end = le zero64 begin && lt begin end && le end (of_bits binary64 0x3fe0_0000_0000_0000)

-- values finite, weights positive
unfoldable pub band_holds : Band → Bool
band_holds b = placed b.begin b.end && value_finite b.desired && value_finite b.weight && value_positive b.weight

-- each end below the next begin
abbrev pub apart : Plan → ℕ → Bool
apart p i = cond (ltb (i + 1) p.count) (lt (band_of p i).end (band_of p (i + 1)).begin) true

-- 1 to 8 bands
unfoldable pub plan_holds : Plan → Bool
plan_holds p = leb 1 p.count && leb p.count 8 && every (λ i. band_holds (band_of p i) && apart p i) p.count

unfoldable pub plan_for : Plan → Outcome (Unit {0})
plan_for p = unless (plan_holds p) 6 (gave tt)
