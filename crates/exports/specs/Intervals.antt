-- Bands and subintervals as C hands them over and is given them: begin and end of each.
use Rattle.std.specs.Prelude.{ℕ, ◌+◌, ◌*◌, ◌/◌, ◌%◌, ◌&&◌, cond, List, [], ◌∷◌, leb, eqb, length, Float}
use Rattle.numbers.specs.Loops.{tab}
use Rattle.numbers.specs.Outcome.{Outcome, gave, bind, unless}
use Rattle.fir_types.specs.declared.edges.Interval.{Interval}
use Rattle.fir_types.specs.Edges.{Edges}
use Rattle.fir_types.specs.Edges.{interval}
use Rattle.subdivision.specs.Subdivide.{Intervals}
use Rattle.subdivision.specs.Subdivide.{subdivide_for}
use Rattle.exports.specs.Answers.{Told, told}
use Rattle.exports.specs.Plans.{number_at, edge_at}

-- band i, zeros past the list's end
abbrev pub pair_from : List Float → ℕ → Interval
pair_from l i = interval (number_at l (2 * i)) (number_at l (2 * i + 1))

-- the numbers two by two. An odd number of them makes no bands, which every leaf refuses with 15
unfoldable pub pairs_of : List Float → Edges
pairs_of l = record { list = tab (pair_from l) 8 0; count = cond (eqb (length l % 2) 0) (length l / 2) 0 }

-- the intervals' number, and their begins and ends
abbrev pub spread : Intervals → Told
spread i = told (i.count ∷ []) (tab (edge_at i.list) (2 * i.count) 0)

-- 15 for outputs without room for one count and for as many pairs as there can be intervals
unfoldable pub cuts_for : List Float → List Float → ℕ → ℕ → Outcome Told
cuts_for x bands counts room =
    unless (leb 1 counts && leb 146 room) 15 (bind (subdivide_for x (pairs_of bands)) (λ i. gave (spread i)))
