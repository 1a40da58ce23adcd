-- One exchange is one turn of the Rust's loop (document 01): from a job's fields to the next ones, or a refusal of 9 to 13.
use Rattle.std.specs.Prelude.{◌+◌, ◌-◌, List, length, get_or, Float}
use Rattle.numbers.specs.Loops.{tab}
use Rattle.numbers.specs.Outcome.{Outcome, gave, bind}
use Rattle.fir_types.specs.Edges.{Edges}
use Rattle.fir_types.specs.Edges.{packed}
use Rattle.subdivision.specs.Subdivide.{Intervals}
use Rattle.subdivision.specs.Subdivide.{subdivide_for}
use Rattle.pruning.specs.declared.candidates.Candidate.{Candidate}
use Rattle.pruning.specs.Candidates.{none}
use Rattle.fields.specs.declared.request.Request.{Request}
use Rattle.fields.specs.declared.held.Fields.{Fields}
use Rattle.fields.specs.Request.{odd_taps, points_of, request_for}
use Rattle.fields.specs.Interpolant.{Interpolation, radians_of, padded}
use Rattle.fields.specs.Accept.{accept_of}
use Rattle.extrema.specs.Errors.{Curve, curve}
use Rattle.extrema.specs.Extrema.{extrema_in}
use Rattle.exchange.specs.Bands.{bands_in_x}
use Rattle.exchange.specs.Flatness.{flatness_of}

-- the kept candidates' places, which rise, from the last to the first
abbrev pub falling_of : List Candidate → List Float
falling_of l = tab (λ i. (get_or l (length l - 1 - i) none).x) (length l) 0

-- one exchange more, and these points
abbrev pub moved : Fields → List Candidate → Float → Fields
moved j l flatness = record { request = j.request; made = j.made + 1; flatness = flatness; points = padded (falling_of l) }

-- flatness; then the new points, with the weights, delta and abscissas that restoring would work out from them
unfoldable pub renewed : Fields → List Candidate → Outcome Fields
renewed j l = bind (flatness_of l) (λ f. bind (accept_of (moved j l f)) (λ _. gave (moved j l f)))

abbrev pub curve_of : Request → List Float → List Float → List Float → Curve
curve_of r x w y = curve r.plan r.symmetry (odd_taps r) x w y

-- of the points x with their weights and abscissas: from the subintervals on, and from the bands on
abbrev pub exchanged_in : Fields → List Float → List Float → List Float → Intervals → Outcome Fields
exchanged_in j x w y v =
    bind (extrema_in (curve_of j.request x w y) v j.request.degree (points_of j.request)) (renewed j)

abbrev pub exchanged_over : Fields → List Float → List Float → List Float → Edges → Outcome Fields
exchanged_over j x w y bands = bind (subdivide_for x bands) (exchanged_in j x w y)

unfoldable pub exchanged_at : Fields → List Float → List Float → List Float → Outcome Fields
exchanged_at j x w y =
    bind (request_for j.request) (λ bands. bind (bands_in_x (radians_of (packed bands))) (exchanged_over j x w y))

abbrev pub exchanged : Fields → Interpolation → Outcome Fields
exchanged j i = exchanged_at j i.places.x i.weights i.abscissas
