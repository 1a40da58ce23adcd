-- The chain of `interpolated`, each part by name: what is still to be done once the numbers before it are there. Assumes nothing.
use mathlib.Core.Path.{◌≡◌, refl}
use mathlib.Core.List.{List}
use lib.ListN.{length}
use lib.Ieee.{Float}
use Rattle.numbers.specs.Outcome.{Outcome, gave, bind, unless}
use Rattle.barycentric.specs.Weights.{weights_for}
use Rattle.barycentric.specs.Delta.{delta_for}
use Rattle.barycentric.specs.Abscissas.{abscissas_for}
use Rattle.fields.specs.declared.request.Request.{Request}
use Rattle.fields.specs.Interpolant.{Places, Interpolation, interpolation, falling, desired_each, weight_each, interpolated}

module _ (r : Request) (p : Places) where
  abbrev pub with_delta : List Float → List Float → List Float → Float → Outcome Interpolation
  with_delta w d v delta = bind (abscissas_for delta d v (length p.x)) (λ y. gave (interpolation p w y delta))

  abbrev pub with_errors : List Float → List Float → List Float → Outcome Interpolation
  with_errors w d v = bind (delta_for w d v) (with_delta w d v)

  abbrev pub with_desired : List Float → List Float → Outcome Interpolation
  with_desired w d = bind (weight_each r p.freqs) (with_errors w d)

  abbrev pub with_weights : List Float → Outcome Interpolation
  with_weights w = bind (desired_each r p.freqs) (with_desired w)

  pub chain : interpolated r p ≡ unless (falling p.x) 9 (bind (weights_for p.x (length p.x)) with_weights)
  unfolding interpolated
  chain = refl
