-- The weighted error at a place x0: W(f) * (D(f) - H(f)) with f the arccosine of x0 and H the response there (document 01, item 2).
use Rattle.std.specs.Prelude.{Bool, List, length, get_or, Float}
use Rattle.std.specs.Float.{nan}
use Rattle.numbers.specs.Operations.{◌⊖◌, ◌⊗◌}
use Rattle.numbers.specs.Outcome.{Outcome, bind, gather, needed_of}
use Rattle.angles.specs.Arccosine.{arccosine_of}
use Rattle.bands.specs.declared.Symmetry.{Symmetry}
use Rattle.bands.specs.declared.Plan.{Plan}
use Rattle.barycentric.specs.Response.{responses_for}
use Rattle.fir_types.specs.Adjusted.{adjusted_desired, adjusted_weight}
use Rattle.extrema.specs.declared.curve.Curve as given

-- what an error is worked out from: the plan and the type; the points, their weights and abscissas
pub record Curve : Type 0 where
  pub plan : Plan
  pub symmetry : Symmetry
  pub odd : Bool
  pub x : List Float
  pub weights : List Float
  pub abscissas : List Float

abbrev pub curve : Plan → Symmetry → Bool → List Float → List Float → List Float → Curve
curve p s odd x w y = record { plan = p; symmetry = s; odd = odd; x = x; weights = w; abscissas = y }

-- that of the code's struct
abbrev pub curve_of : given.Curve → Curve
curve_of c = curve c.target.plan c.target.symmetry c.target.odd c.x.now c.wk.now c.yk.now

-- of the response h and the desired value d at the angle f
abbrev pub weighted : Plan → Symmetry → Bool → Float → Float → Float → Outcome Float
weighted p s odd f h d = bind (adjusted_weight p s odd f) (λ w. needed_of (w ⊗ (d ⊖ h)))

-- of the response h at the angle f
abbrev pub error_at : Plan → Symmetry → Bool → Float → Float → Outcome Float
error_at p s odd f h = bind (adjusted_desired p s odd f) (weighted p s odd f h)

-- of the response h at the place x0
unfoldable pub error_from : Plan → Symmetry → Bool → Float → Float → Outcome Float
error_from p s odd x0 h = bind (arccosine_of x0) (λ f. error_at p s odd f h)

-- of the responses h at the places
abbrev pub errors_from : Plan → Symmetry → Bool → List Float → List Float → Outcome (List Float)
errors_from p s odd places h = gather (λ i. error_from p s odd (get_or places i nan) (get_or h i nan)) (length places) 0

-- at each place of a list: first all responses, then the errors
unfoldable pub errors_for : Curve → List Float → Outcome (List Float)
errors_for c places =
    bind (responses_for places c.x c.weights c.abscissas (length places)) (errors_from c.plan c.symmetry c.odd places)
