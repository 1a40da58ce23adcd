-- Frequencies and points: a list, and then what an angle function gives of each of its entries. Assumes nothing.
use Rattle.std.specs.Prelude.{Result, Ok, Err}
use Prim.Native.Nat.{ℕ, ◌+◌}
use mathlib.Core.Path.{◌≡◌, refl}
use mathlib.Core.List.{List}
use lib.ListN.{length}
use lib.Ieee.{Float}
use Rattle.numbers.specs.declared.Refusal.{Refusal}
use Rattle.numbers.specs.Outcome.{refused, gave, bind, needed_list_of}
use Rattle.numbers.specs.Refusals.{refusal_number, verdict_of, Filled}
use Rattle.numbers.proofs.OutcomeLaws.{bind_next, bind_stop, verdict_map, whole_is, whole_refused}
use Rattle.angles.specs.Turns.{cosine_of}
use Rattle.angles.specs.Arccosine.{arccosine_of}
use Rattle.fir_types.specs.Edges.{Edges}
use Rattle.subdivision.specs.First.{first_for}
use Rattle.fields.specs.declared.request.Request.{Request}
use Rattle.fields.specs.Request.{functions_of, points_of}
use Rattle.fields.specs.Interpolant.{places, each, radians_of, first_places, given_places}

module _ (points : List Float) {v : Result Unit Refusal} {w x : List Float} (leaf : Filled (needed_list_of points (length w)) (length points) v w x) (long : length w ≡ length points) where
  pub given_taken : (r : Result Unit Refusal) (f : List Float) → length x ≡ length w → v ≡ (Ok tt) → verdict_of r f ≡ each arccosine_of x → verdict_of r (places f x) ≡ given_places points
  unfolding given_places
  given_taken r f k e h =
      bind_next (λ x. bind (each arccosine_of x) (λ f. gave (places f x))) (whole_is (needed_list_of points) (length points) leaf long refl k e)
      (rw (← h) (verdict_map (λ f. places f x) r f))

  pub given_refused : {q : Refusal} → v ≡ Err q → refused (refusal_number q) ≡ given_places points
  unfolding given_places
  given_refused e = bind_stop (λ x. bind (each arccosine_of x) (λ f. gave (places f x))) (whole_refused (needed_list_of points) (length points) leaf long e)

module _
    (r : Request) (bands e : Edges) (n : ℕ) {v : Result Unit Refusal} {w f : List Float} (leaf : Filled (first_for e n (length w)) (n + 1) v w f) (in_radians_fact : e ≡ radians_of bands) (many : n ≡ functions_of r)
    (long : length w ≡ points_of r)
  where
    leaf_is : Filled (first_for (radians_of bands) (functions_of r) (length w)) (points_of r) v w f
    leaf_is = rw (in_radians_fact, many) at leaf

    pub first_taken : (s : Result Unit Refusal) (x : List Float) → length f ≡ length w → v ≡ (Ok tt) → verdict_of s x ≡ each cosine_of f → verdict_of s (places f x) ≡ first_places r bands
    unfolding first_places
    first_taken s x k t h =
        bind_next (λ f. bind (each cosine_of f) (λ x. gave (places f x))) (whole_is (first_for (radians_of bands) (functions_of r)) (points_of r) leaf_is long refl k t)
        (rw (← h) (verdict_map (λ x. places f x) s x))

    pub first_refused : {q : Refusal} → v ≡ Err q → refused (refusal_number q) ≡ first_places r bands
    unfolding first_places
    first_refused t = bind_stop (λ f. bind (each cosine_of f) (λ x. gave (places f x))) (whole_refused (first_for (radians_of bands) (functions_of r)) (points_of r) leaf_is long t)
