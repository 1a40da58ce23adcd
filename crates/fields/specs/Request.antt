-- A request and what opening asks of it before it works out any point: refusals 5, 6, 7 and 8, in that order.
use Rattle.std.specs.Prelude.{ℕ, ◌+◌, ◌≡◌, Bool, ◌&&◌, List, leb, Float, Result}
use Rattle.std.specs.Float.Ieee.{le}
use Rattle.numbers.specs.Floats.{zero64, one64}
use Rattle.numbers.specs.Outcome.{Outcome, gave, bind, unless}
use Rattle.numbers.specs.declared.Refusal.{Refusal}
use Rattle.numbers.specs.Refusals.{outcome_of}
use Rattle.bands.specs.declared.Symmetry.{Symmetry}
use Rattle.bands.specs.declared.Plan.{Plan}
use Rattle.chebyshev.specs.Nodes.{least_degree, most_degree}
use Rattle.fir_types.specs.declared.edges.Interval.{Interval}
use Rattle.fir_types.specs.declared.target.Target.{Target}
use Rattle.fir_types.specs.Kinds.{is_odd, functions, taps_in_range}
use Rattle.fir_types.specs.Realizable.{realizable_for}
use Rattle.fir_types.specs.Edges.{adjusted_for}
use Rattle.fields.specs.declared.request.Request.{Request}

abbrev pub most_exchanges : ℕ
most_exchanges = 100

abbrev pub odd_taps : Request → Bool
odd_taps r = is_odd r.taps

abbrev pub functions_of : Request → ℕ
functions_of r = functions r.taps r.symmetry

-- what is wanted of the filter: the plan and the type
abbrev pub target_of : Request → Target
target_of r = record { plan = r.plan; symmetry = r.symmetry; odd = odd_taps r }

-- points: functions + 1
abbrev pub points_of : Request → ℕ
points_of r = functions_of r + 1

-- finite, 0 to 1
abbrev pub threshold_holds : Float → Bool
threshold_holds t = le zero64 t && le t one64

-- taps, symmetry, degree, exchanges and threshold in range
unfoldable pub in_range : Request → Bool
in_range r =
    taps_in_range r.taps r.symmetry && leb least_degree r.degree && leb r.degree most_degree
    && leb r.exchanges most_exchanges && threshold_holds r.threshold

-- 5; then 6 and 7; then 8; what is left of the bands, in cycles per sample
unfoldable pub request_for : Request → Outcome (List Interval)
request_for r =
    unless (in_range r) 5
    (bind (realizable_for r.plan r.symmetry (odd_taps r)) (λ _. adjusted_for r.plan r.symmetry (odd_taps r)))

abbrev pub request_of : ℕ → Symmetry → ℕ → ℕ → Float → Plan → Request
request_of taps symmetry degree exchanges threshold plan =
    record { taps = taps; symmetry = symmetry; degree = degree; exchanges = exchanges; threshold = threshold; plan = plan }

-- The contract of the constructor: the request as it was given, where it is accepted.
abbrev pub Constructed : Request → Result Request Refusal → Type 0
Constructed r a = outcome_of a ≡ bind (request_for r) (λ _. gave r)
