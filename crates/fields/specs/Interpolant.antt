-- What opening and restoring work out from a request and its points: frequencies, points, weights, delta and abscissas, in that order;
-- 9 if one fails. Nothing of it is kept in a job.
use Rattle.std.specs.Prelude.{Result, Ok, Err}
use Rattle.numbers.specs.declared.Refusal.{Refusal}
use Rattle.std.specs.Prelude.{ℕ, ◌+◌, ◌-◌, ◌≤◌, ◌≡◌, Bool, List, ◌++◌, map, length, get_or, replicate, Float}
use Rattle.std.specs.Float.{nan}
use Rattle.std.specs.Float.Ieee.{lt}
use Rattle.numbers.specs.Floats.{zero64}
use Rattle.numbers.specs.Loops.{every}
use Rattle.numbers.specs.Outcome.{Outcome, refused, gave, bind, unless, gather, needed_list_of}
use Rattle.numbers.specs.Refusals.{refusal_number}
use Rattle.angles.specs.Turns.{cosine_of}
use Rattle.angles.specs.Arccosine.{arccosine_of}
use Rattle.barycentric.specs.Weights.{weights_for}
use Rattle.barycentric.specs.Delta.{delta_for}
use Rattle.barycentric.specs.Abscissas.{abscissas_for}
use Rattle.fir_types.specs.Edges.{Edges}
use Rattle.fir_types.specs.Edges.{in_radians}
use Rattle.fir_types.specs.Adjusted.{adjusted_desired, adjusted_weight}
use Rattle.subdivision.specs.First.{first_for}
use Rattle.fields.specs.declared.request.Request.{Request}
use Rattle.fields.specs.declared.interpolant.Interpolant.{Interpolant}
use Rattle.fields.specs.Request.{odd_taps, functions_of, points_of}

-- extremal frequencies in radians, and the points, which are their cosines
pub record Places : Type 0 where
  pub freqs : List Float
  pub x : List Float

abbrev pub places : List Float → List Float → Places
places f x = record { freqs = f; x = x }

-- what g gives of each entry of a list
abbrev pub each : (Float → Outcome Float) → List Float → Outcome (List Float)
each g l = gather (λ i. g (get_or l i nan)) (length l) 0

-- radians: edges times TAU
abbrev pub radians_of : Edges → Edges
radians_of e = record { list = map in_radians e.list; count = e.count }

-- with no exchange made: the first points, equally spaced over the bands
unfoldable pub first_places : Request → Edges → Outcome Places
first_places r bands =
    bind (first_for (radians_of bands) (functions_of r) (points_of r)) (λ f. bind (each cosine_of f) (λ x. gave (places f x)))

-- else those that are given, which lie in -1 to 1
unfoldable pub given_places : List Float → Outcome Places
given_places points = bind (needed_list_of points (length points)) (λ x. bind (each arccosine_of x) (λ f. gave (places f x)))

-- each point below the one before
unfoldable pub falling : List Float → Bool
falling x = every (λ i. lt (get_or x (i + 1) nan) (get_or x i nan)) (length x - 1)

pub record Interpolation : Type 0 where
  pub places : Places
  pub weights : List Float
  pub delta : Float
  pub abscissas : List Float

abbrev pub interpolation : Places → List Float → List Float → Float → Interpolation
interpolation p w y delta = record { places = p; weights = w; delta = delta; abscissas = y }

abbrev pub desired_each : Request → List Float → Outcome (List Float)
desired_each r f = each (adjusted_desired r.plan r.symmetry (odd_taps r)) f

abbrev pub weight_each : Request → List Float → Outcome (List Float)
weight_each r f = each (adjusted_weight r.plan r.symmetry (odd_taps r)) f

-- from the plan that stands in the request now: weights, adjusted values, delta, abscissas
unfoldable pub interpolated : Request → Places → Outcome Interpolation
interpolated r p =
    unless (falling p.x) 9
    (bind (weights_for p.x (length p.x)) (λ w.
    bind (desired_each r p.freqs) (λ d.
    bind (weight_each r p.freqs) (λ v.
    bind (delta_for w d v) (λ delta.
    bind (abscissas_for delta d v (length p.x)) (λ y.
    gave (interpolation p w y delta)))))))

-- ---- as it is answered: lists at the front of arrays that are zero beyond them
abbrev pub padded : List Float → List Float
padded l = l ++ replicate (65 - length l) zero64

abbrev pub answered : Interpolation → Interpolant
answered i =
    record {
      freqs = padded i.places.freqs;
      points = padded i.places.x;
      weights = padded i.weights;
      abscissas = padded i.abscissas;
      count = length i.places.x;
      delta = i.delta;
    }

-- ---- in the code: lent lists of one length, and delta as the answer
abbrev pub interpolation_of : Result Float Refusal → Places → List Float → List Float → Outcome Interpolation
interpolation_of (Ok delta) p w y = gave (interpolation p w y delta)
interpolation_of (Err q) p w y = refused (refusal_number q)

pub record Alike (n : ℕ) (f x w y : List Float) : Type 0 where
  pub few : n ≤ 65
  pub freqs : length f ≡ n
  pub points : length x ≡ n
  pub weights : length w ≡ n
  pub abscissas : length y ≡ n
