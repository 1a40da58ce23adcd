-- A plan and a symmetry as C hands them over.
use Rattle.bands.specs.Numbered.{symmetry_of, value_of}
use Rattle.std.specs.Prelude.{ℕ, ◌+◌, ◌*◌, ◌/◌, ◌%◌, Bool, ◌&&◌, cond, List, leb, ltb, eqb, length, get_or, Float}
use Rattle.std.specs.Float.{nan}
use Rattle.std.specs.Float.Ieee.Scale.{finite}
use Rattle.numbers.specs.Floats.{zero64}
use Rattle.numbers.specs.Loops.{every, tab}
use Rattle.numbers.specs.Outcome.{Outcome, gave, bind, unless, needed_of}
use Rattle.bands.specs.declared.Symmetry.{Symmetry}
use Rattle.bands.specs.declared.Symmetry.TheVariants.{Even, Odd}
use Rattle.bands.specs.declared.Value.{Value}
use Rattle.bands.specs.declared.Value.TheVariants.{Constant, Linear}
use Rattle.bands.specs.declared.Band.{Band}
use Rattle.bands.specs.declared.Plan.{Plan}
use Rattle.bands.specs.Lookup.{desired_at, weight_at}
use Rattle.bands.specs.Rules.{plan_holds}
use Rattle.fir_types.specs.declared.edges.Interval.{Interval}
use Rattle.fir_types.specs.declared.target.Target.{Target}
use Rattle.fir_types.specs.Edges.{interval, adjusted_for}

-- a number of the list, 0 past its end
abbrev pub number_at : List Float → ℕ → Float
number_at numbers k = cond (ltb k (length numbers)) (get_or numbers k nan) zero64

-- band i: two kinds, of the desired value and of the weight, and six numbers; zeros past the lists' ends
abbrev pub band_from : List ℕ → List Float → ℕ → Band
band_from kinds numbers i =
    record {
      begin = number_at numbers (6 * i);
      end = number_at numbers (6 * i + 1);
      desired = value_of (get_or kinds (2 * i) 0) (number_at numbers (6 * i + 2)) (number_at numbers (6 * i + 3));
      weight = value_of (get_or kinds (2 * i + 1) 0) (number_at numbers (6 * i + 4)) (number_at numbers (6 * i + 5));
    }

-- two kinds and six numbers a band, at most 8 bands, each kind 0 or 1
unfoldable pub matched : List ℕ → List Float → Bool
matched kinds numbers =
    leb (length kinds) 16 && eqb (length kinds % 2) 0 && eqb (length numbers) (3 * length kinds) && every (λ i. leb (get_or kinds i 0) 1) (length kinds)

-- lists that do not match make a plan without bands, which the rules for bands refuse
unfoldable pub plan_of : List ℕ → List Float → Plan
plan_of kinds numbers = record { bands = tab (band_from kinds numbers) 8 0; count = cond (matched kinds numbers) (length kinds / 2) 0 }

-- 0 even, 1 odd, else refusal 5
abbrev pub with_symmetry : {A : Type 0} → ℕ → (Symmetry → Outcome A) → Outcome A
with_symmetry n k = unless (leb n 1) 5 (k (symmetry_of n))

-- any number but 0 says that the taps are odd
abbrev pub says_odd : ℕ → Bool
says_odd n = ltb 0 n

abbrev pub target : Plan → Symmetry → Bool → Target
target plan symmetry odd = record { plan = plan; symmetry = symmetry; odd = odd }

-- the lookup as a leaf: 6 for a plan that breaks the rules for bands, 9 where f or the value is not finite
unfoldable pub desired_for : Plan → Float → Outcome Float
desired_for p f = unless (plan_holds p) 6 (unless (finite f) 9 (needed_of (desired_at p f)))

unfoldable pub weight_for : Plan → Float → Outcome Float
weight_for p f = unless (plan_holds p) 6 (unless (finite f) 9 (needed_of (weight_at p f)))

-- intervals as numbers: begin and end of each
abbrev pub edge_at : List Interval → ℕ → Float
edge_at l k = let b = get_or l (k / 2) (interval nan nan) in cond (eqb (k % 2) 0) b.begin b.end

abbrev pub flat : List Interval → List Float
flat l = tab (edge_at l) (2 * length l) 0

-- the adjusted bands as numbers: 15 for an output without room for as many pairs as the plan has bands
unfoldable pub edges_for : Plan → ℕ → Bool → ℕ → Outcome (List Float)
edges_for p symmetry odd room =
    unless (leb p.count (room / 2)) 15 (bind (with_symmetry symmetry (λ s. adjusted_for p s odd)) (λ l. gave (flat l)))
