-- Adjusted bands as numbers. Assumes nothing.
use mathlib.Core.Path.{◌≡◌, refl, sym}
use mathlib.Core.Bool.{Bool}
use mathlib.Core.List.{List}
use lib.ListN.{length, take}
use lib.Seq.{take-append_seam}
use Rattle.numbers.specs.Outcome.{Outcome, refused, gave, bind}
use Rattle.numbers.proofs.Given.{gave_same, never_given}
use Rattle.bands.specs.declared.Plan.{Plan}
use Rattle.bands.specs.declared.Symmetry.{Symmetry}
use Rattle.fir_types.specs.declared.edges.Interval.{Interval}
use Rattle.fir_types.specs.Edges.{Edges}
use Rattle.fir_types.specs.Edges.{adjusted_for, packed}
use Rattle.fir_types.proofs.EdgeLaws.{Few, few}

-- what the intervals that are given are, as they are packed
pub record Given (p : Plan) (s : Symmetry) (odd : Bool) (e : Edges) : Type 0 where
  pub is : adjusted_for p s odd ≡ gave (take e.count e.list)
  pub few : Few p e.count
  pub count : length (take e.count e.list) ≡ e.count

given_by : (p : Plan) (s : Symmetry) (odd : Bool) (l : List Interval) → adjusted_for p s odd ≡ gave l → Given p s odd (packed l)
given_by p s odd l h = record { is = rw take-append_seam h; few = few p s odd l h; count = rw take-append_seam }

pub edges_given : (p : Plan) (s : Symmetry) (odd : Bool) (e : Edges) → gave e ≡ bind (adjusted_for p s odd) (λ l. gave (packed l)) → Given p s odd e
edges_given p s odd e = go (adjusted_for p s odd) refl
  where
    go : (o : Outcome (List Interval)) → adjusted_for p s odd ≡ o → gave e ≡ bind o (λ l. gave (packed l)) → Given p s odd e
    go (refused n) h k = absurd (never_given (sym k))
    go (gave l) h k = rw (gave_same k) (given_by p s odd l h)
