-- What a job's fields must be: the one definition that opening, restoring and the check of a slot's words go through.
use Rattle.std.specs.Prelude.{ℕ, Bool, not, ◌&&◌, ◌||◌, cond, List, leb, ltb, eqb, take, replicate, Float}
use Rattle.std.specs.Float.Ieee.{eq, le}
use Rattle.numbers.specs.Floats.{zero64, one64, sign}
use Rattle.numbers.specs.Outcome.{Outcome, gave, bind, unless}
use Rattle.fir_types.specs.Edges.{Edges}
use Rattle.fir_types.specs.Edges.{packed}
use Rattle.fields.specs.declared.request.Request.{Request}
use Rattle.fields.specs.declared.interpolant.Interpolant.{Interpolant}
use Rattle.fields.specs.declared.held.Fields.{Fields}
use Rattle.fields.specs.Request.{points_of, request_for}
use Rattle.fields.specs.Interpolant.{Places, Interpolation, first_places, given_places, interpolated, answered}

-- made is at most allowed; flatness lies in 0 to 1, sign bit clear, and is +0 where none was made
abbrev pub flatness_holds : ℕ → Float → Bool
flatness_holds made f =
    le zero64 f && le f one64 && not (sign f) && (ltb 0 made || eq f zero64)

abbrev pub counts_hold : ℕ → ℕ → Float → Bool
counts_hold made allowed f = leb made allowed && flatness_holds made f

-- the points that a job holds
abbrev pub held_points : Fields → List Float
held_points j = take (points_of j.request) j.points

-- with no exchange made the first points, else those that the job holds
abbrev pub places_of : Fields → Edges → Outcome Places
places_of j bands = cond (eqb j.made 0) (first_places j.request bands) (given_places (held_points j))

-- 14 for counts that no image may hold; 5, 6, 7, 8; then 9
unfoldable pub accept_of : Fields → Outcome Interpolation
accept_of j =
    unless (counts_hold j.made j.request.exchanges j.flatness) 14
    (bind (request_for j.request) (λ bands. bind (places_of j (packed bands)) (interpolated j.request)))

-- the same, with the lists as arrays
abbrev pub accept_for : Fields → Outcome Interpolant
accept_for j = bind (accept_of j) (λ i. gave (answered i))

-- finished when made equals allowed, or when made is above 0 and flatness is at most the threshold
abbrev pub finished : Fields → Bool
finished j = eqb j.made j.request.exchanges || (ltb 0 j.made && le j.flatness j.request.threshold)

-- the fields of a job as opening leaves it
abbrev pub opening : Request → Fields
opening r = record { request = r; made = 0; flatness = zero64; points = replicate 65 zero64 }
