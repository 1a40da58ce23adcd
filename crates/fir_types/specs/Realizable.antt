-- The response check (refusal 7): at a singular point that a band reaches, the desired value must be zero.
use Rattle.std.specs.Prelude.{◌-◌, Bool, not, ◌&&◌}
use Rattle.std.specs.Float.Ieee.{eq, ne}
use Rattle.numbers.specs.Floats.{zero64}
use Rattle.numbers.specs.Outcome.{Outcome, gave, unless}
use Rattle.angles.specs.Constants.{half}
use Rattle.bands.specs.declared.Symmetry.{Symmetry}
use Rattle.bands.specs.declared.Plan.{Plan}
use Rattle.bands.specs.Lookup.{many, band_of, desired_at}
use Rattle.bands.specs.Rules.{plan_holds}
use Rattle.fir_types.specs.Kinds.{singular_zero, singular_nyquist}

-- the first band begins at 0, the last one ends at 0.5
abbrev pub meets_zero : Plan → Bool
meets_zero p = eq (band_of p 0).begin zero64

abbrev pub meets_nyquist : Plan → Bool
meets_nyquist p = eq (band_of p (many p - 1)).end half

-- the type cannot do what the plan asks for there
abbrev pub blocked_at_zero : Plan → Symmetry → Bool
blocked_at_zero p s = singular_zero s && (meets_zero p && ne (desired_at p zero64) zero64)

abbrev pub blocked_at_nyquist : Plan → Symmetry → Bool → Bool
blocked_at_nyquist p s odd = singular_nyquist s odd && (meets_nyquist p && ne (desired_at p half) zero64)

unfoldable pub realizable : Plan → Symmetry → Bool → Bool
realizable p s odd = not (blocked_at_zero p s) && not (blocked_at_nyquist p s odd)

-- 6 for a plan that breaks the rules for bands
unfoldable pub realizable_for : Plan → Symmetry → Bool → Outcome (Unit {0})
realizable_for p s odd = unless (plan_holds p) 6 (unless (realizable p s odd) 7 (gave tt))
