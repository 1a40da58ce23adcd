-- The first extremal frequencies: equal spacing over the bands' total length, clamped to the band's end (document 01). Bands are
-- intervals in radians, in rising order.
use Rattle.std.specs.Prelude.{ℕ, zero, suc, ◌+◌, ◌-◌, Bool, ◌&&◌, ◌||◌, cond, List, [], ◌∷◌, leb, eqb, pos, get_or, Float}
use Rattle.std.specs.Float.{nan, binary64}
use Rattle.std.specs.Float.Ieee.{of_int, le}
use Rattle.std.specs.Float.Ieee.Scale.{finite}
use Rattle.numbers.specs.Floats.{zero64, lesser}
use Rattle.numbers.specs.Loops.{run, every}
use Rattle.numbers.specs.Operations.{◌⊕◌, ◌⊖◌, ◌⊗◌, ◌⊘◌}
use Rattle.numbers.specs.Outcome.{Outcome, unless, needed_list_of}
use Rattle.fir_types.specs.declared.edges.Interval.{Interval}
use Rattle.fir_types.specs.Edges.{Edges}
use Rattle.fir_types.specs.Edges.{interval}
use Rattle.subdivision.specs.declared.first.Walk.{Walk}

-- the band i, in rising order
abbrev pub band_of : Edges → ℕ → Interval
band_of e i = get_or e.list i (interval nan nan)

abbrev pub length_of : Interval → Float
length_of b = b.end ⊖ b.begin

abbrev pub total_length : Edges → Float
total_length e = run (λ i t. t ⊕ length_of (band_of e i)) e.count 0 zero64

-- the walk along the bands: the band that is reached, and the length of those before it. It goes on while what is left of s does not
-- fit the band and there is a next one; k bounds the turns
unfoldable pub walked : Edges → Float → ℕ → Walk → Walk
walked e s zero w = w
walked e s (suc k) w =
    let l = length_of (band_of e w.band) in
    let next = walked e s k (record { band = w.band + 1; consumed = w.consumed ⊕ l }) in
    cond (le (s ⊖ w.consumed) l || eqb w.band (e.count - 1)) w next

-- the point that lies s along the bands, clamped to the band's end; where the sum is no number the point is the end, as the Rust's
-- minimum has it
abbrev pub point_at : Edges → Float → Walk → Float
point_at e s w = let b = band_of e w.band in lesser b.end (b.begin ⊕ (s ⊖ w.consumed))

-- n points from j on, the walk going on from point to point
unfoldable pub points_from : Edges → Float → ℕ → ℕ → Walk → List Float
points_from e spacing zero j w = []
points_from e spacing (suc n) j w =
    let s = of_int binary64 (pos j) ⊗ spacing in
    let v = walked e s e.count w in
    point_at e s v ∷ points_from e spacing n (j + 1) v

abbrev pub most_functions : ℕ
most_functions = 64

abbrev pub at_start : Walk
at_start = record { band = 0; consumed = zero64 }

-- functions + 1 frequencies
abbrev pub first_points : Edges → ℕ → List Float
first_points e functions =
    points_from e (total_length e ⊘ of_int binary64 (pos functions)) (functions + 1) 0 at_start

abbrev pub edges_finite : Edges → Bool
edges_finite e = every (λ i. finite (band_of e i).begin && finite (band_of e i).end) e.count

-- 1 to 8 bands, 1 to 64 functions, and room for the points
abbrev pub first_sized : Edges → ℕ → ℕ → Bool
first_sized e functions room =
    leb 1 e.count && leb e.count 8 && leb 1 functions && leb functions most_functions && leb (functions + 1) room

-- 15 where they are not so many; 9 for an edge or a point that is not finite
unfoldable pub first_for : Edges → ℕ → ℕ → Outcome (List Float)
first_for e functions room =
    unless (first_sized e functions room) 15 (unless (edges_finite e) 9 (needed_list_of (first_points e functions) room))
