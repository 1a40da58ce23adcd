-- Edge adjustment: at 0 the begin becomes 1e-4, at 0.5 the end becomes 0.5 - 1e-4, only for the singular types. A band left without
-- positive length is removed, and where none is left refusal 8 is given.
use Rattle.std.specs.Prelude.{Result}
use Rattle.numbers.specs.declared.Refusal.{Refusal}
use Rattle.std.specs.Prelude.{ℕ, zero, suc, ◌+◌, ◌≡◌, Bool, ◌&&◌, cond, List, [], ◌∷◌, ltb, length, set, Float}
use Rattle.std.specs.Float.Ieee.{lt, eq}
use Rattle.numbers.specs.Floats.{zero64}
use Rattle.numbers.specs.Operations.{◌⊖◌, ◌⊗◌}
use Rattle.numbers.specs.Outcome.{Outcome, bind, gave, unless}
use Rattle.numbers.specs.Refusals.{outcome_of}
use Rattle.angles.specs.Constants.{half}
use Rattle.bands.specs.declared.Symmetry.{Symmetry}
use Rattle.bands.specs.declared.Plan.{Plan}
use Rattle.bands.specs.declared.Band.{Band}
use Rattle.bands.specs.Lookup.{band_of}
use Rattle.bands.specs.Rules.{plan_holds}
use Rattle.fir_types.specs.declared.edges.Interval.{Interval}
use Rattle.listed.specs.declared.Listed.{Listed}
use Rattle.listed.specs.Listed.{listed}
use Rattle.fir_types.specs.Kinds.{tau, margin, singular_zero, singular_nyquist}

abbrev pub interval : Float → Float → Interval
interval b e = record { begin = b; end = e }

-- a band's edges, moved away from the singular points
abbrev pub moved_begin : Symmetry → Float → Float
moved_begin s begin = cond (singular_zero s && eq begin zero64) margin begin

abbrev pub moved_end : Symmetry → Bool → Float → Float
moved_end s odd end = cond (singular_nyquist s odd && eq end half) (half ⊖ margin) end

abbrev pub moved : Symmetry → Bool → Band → Interval
moved s odd b = interval (moved_begin s b.begin) (moved_end s odd b.end)

-- those of the bands i, i + 1, .., n of them, that have positive length
unfoldable pub kept : (ℕ → Interval) → ℕ → ℕ → List Interval
kept g zero i = []
kept g (suc n) i = let rest = kept g n (i + 1) in cond (lt (g i).begin (g i).end) (g i ∷ rest) rest

unfoldable pub adjusted : Plan → Symmetry → Bool → List Interval
adjusted p s odd = kept (λ i. moved s odd (band_of p i)) p.count 0

-- 6 for a plan that breaks the rules for bands
unfoldable pub adjusted_for : Plan → Symmetry → Bool → Outcome (List Interval)
adjusted_for p s odd = unless (plan_holds p) 6 (unless (ltb 0 (length (adjusted p s odd))) 8 (gave (adjusted p s odd)))

-- up to 8 intervals, zero beyond them
abbrev pub Edges : Type 0
Edges = Listed Interval 8

abbrev pub packed : List Interval → Edges
packed = listed (interval zero64 zero64) 8

-- The contract: the outcome, answered, its intervals packed.
abbrev pub Edged : Outcome (List Interval) → Result Edges Refusal → Type 0
Edged o r = outcome_of r ≡ bind o (λ l. gave (packed l))

-- an interval of positive length behind those that are there
abbrev pub keep : Interval → Edges → Edges
keep m e = cond (lt m.begin m.end) (record { list = set e.list e.count m; count = e.count + 1 }) e

-- radians: edges times TAU
abbrev pub in_radians : Interval → Interval
in_radians b = interval (b.begin ⊗ tau) (b.end ⊗ tau)
