-- An adjusted value is refused with 9 alone, the response check with 6 or 7, the edge adjustment with 6 or 8. Assumes nothing.
use Prim.Native.Nat.{ℕ}
use mathlib.Core.Path.{refl}
use mathlib.Core.Bool.{Bool, true, false}
use lib.Dec.{ltb}
use lib.ListN.{length}
use lib.Ieee.{Float}
use lib.Ieee.Scale.{finite}
use Rattle.numbers.specs.Operations.{◌⊗◌, ◌⊘◌}
use Rattle.numbers.specs.Outcome.{gave, unless, needed_of}
use Rattle.numbers.proofs.Refusing.{Refuses, Only, refuses_gave, refuses_unless, refuses_bind, refuses_needed}
use Rattle.angles.specs.Constants.{half}
use Rattle.angles.specs.Turns.{cosine_of, sine_of}
use Rattle.angles.proofs.Refused.{cosine_refuses, sine_refuses}
use Rattle.bands.specs.declared.Symmetry.{Symmetry}
use Rattle.bands.specs.declared.Symmetry.TheVariants.{Even, Odd}
use Rattle.bands.specs.declared.Plan.{Plan}
use Rattle.bands.specs.Lookup.{desired_at, weight_at}
use Rattle.bands.specs.Rules.{plan_holds}
use Rattle.fir_types.specs.Kinds.{tau}
use Rattle.fir_types.specs.Adjusted.{desired_in, weight_in, adjusted_desired, adjusted_weight}
use Rattle.fir_types.specs.Realizable.{realizable, realizable_for}
use Rattle.fir_types.specs.Edges.{adjusted, adjusted_for}

-- ---- over, or times, what the type's factor is
desired_in_lem : (s : Symmetry) (odd : Bool) (f d : Float) → Refuses (Only 9) (desired_in s odd f d)
desired_in_lem Even true f d = refuses_needed d
desired_in_lem Even false f d = refuses_bind (cosine_of (half ⊗ f)) (λ c. needed_of (d ⊘ c)) (cosine_refuses (half ⊗ f)) (λ c e. refuses_needed (d ⊘ c))
desired_in_lem Odd false f d = refuses_bind (sine_of (half ⊗ f)) (λ c. needed_of (d ⊘ c)) (sine_refuses (half ⊗ f)) (λ c e. refuses_needed (d ⊘ c))
desired_in_lem Odd true f d = refuses_bind (sine_of f) (λ c. needed_of (d ⊘ c)) (sine_refuses f) (λ c e. refuses_needed (d ⊘ c))

weight_in_lem : (s : Symmetry) (odd : Bool) (f w : Float) → Refuses (Only 9) (weight_in s odd f w)
weight_in_lem Even true f w = refuses_needed w
weight_in_lem Even false f w = refuses_bind (cosine_of (half ⊗ f)) (λ c. needed_of (w ⊗ c)) (cosine_refuses (half ⊗ f)) (λ c e. refuses_needed (w ⊗ c))
weight_in_lem Odd false f w = refuses_bind (sine_of (half ⊗ f)) (λ c. needed_of (w ⊗ c)) (sine_refuses (half ⊗ f)) (λ c e. refuses_needed (w ⊗ c))
weight_in_lem Odd true f w = refuses_bind (sine_of f) (λ c. needed_of (w ⊗ c)) (sine_refuses f) (λ c e. refuses_needed (w ⊗ c))

module _ (p : Plan) (s : Symmetry) (odd : Bool) where
  pub desired_refuses : (f : Float) → Refuses (Only 9) (adjusted_desired p s odd f)
  unfolding adjusted_desired
  desired_refuses f = refuses_unless (finite f) 9 (desired_in s odd f (desired_at p (f ⊘ tau))) (λ t. refl) (λ t. desired_in_lem s odd f (desired_at p (f ⊘ tau)))

  pub weight_refuses : (f : Float) → Refuses (Only 9) (adjusted_weight p s odd f)
  unfolding adjusted_weight
  weight_refuses f = refuses_unless (finite f) 9 (weight_in s odd f (weight_at p (f ⊘ tau))) (λ t. refl) (λ t. weight_in_lem s odd f (weight_at p (f ⊘ tau)))

  -- ---- whatever holds of these numbers holds of every refusal
  pub response_refuses : {P : ℕ → Type 0} → P 6 → P 7 → Refuses P (realizable_for p s odd)
  unfolding realizable_for
  response_refuses six seven =
      refuses_unless (plan_holds p) 6 (unless (realizable p s odd) 7 (gave tt)) (λ t. six) (λ t. refuses_unless (realizable p s odd) 7 (gave tt) (λ t. seven) (λ t. refuses_gave tt))

  pub edges_refuse : {P : ℕ → Type 0} → P 6 → P 8 → Refuses P (adjusted_for p s odd)
  unfolding adjusted_for
  edges_refuse six eight =
      refuses_unless (plan_holds p) 6 (unless (ltb 0 (length (adjusted p s odd))) 8 (gave (adjusted p s odd))) (λ t. six)
      (λ t. refuses_unless (ltb 0 (length (adjusted p s odd))) 8 (gave (adjusted p s odd)) (λ t. eight) (λ t. refuses_gave (adjusted p s odd)))
