-- The places inside a subinterval: where its proxy has roots, mapped onto it. Assumes nothing.
use Rattle.std.specs.Prelude.{Ok}
use Prim.Native.Nat.{ℕ, ◌≤◌}
use mathlib.Core.Path.{◌≡◌, refl, ◌∙◌}
use mathlib.Core.List.{List, ◌++◌}
use lib.ListN.{length, get_or, take}
use lib.Seq.{take_at}
use lib.Ieee.{Float, nan}
use Rattle.numbers.specs.Outcome.{Outcome, refused, gave, bind, sweep}
use Rattle.numbers.proofs.LoopLaws.{length-tab}
use Rattle.numbers.proofs.OutcomeLaws.{bind_stop}
use Rattle.chebyshev.specs.Coefficients.{coefficients_for}
use Rattle.colleague.specs.Answer.{colleague_for}
use Rattle.fir_types.specs.declared.edges.Interval.{Interval}
use Rattle.pruning.specs.declared.candidates.Candidate.{Candidate}
use Rattle.roots.specs.Answer.{roots_for, derivative_roots}
use Rattle.extrema.specs.Errors.{Curve, errors_for}
use Rattle.extrema.specs.Candidates.{candidates_for}
use Rattle.extrema.specs.Proxy.{onto, scaled, derivative, at_roots, of_coefficients, of_errors, inside_of}
use Rattle.extrema.specs.Batches.{of_derivative, of_nodes, places_in, Listed}

pub length-scaled : (v : Interval) (l : List Float) → length (scaled v l) ≡ length l
length-scaled v l = length-tab (λ i. onto v (get_or l i nan)) (length l) 0

-- ---- mapped onto the subinterval, at the front of a longer list
pub derived_next : (v : Interval) (a ck r out t : List Float) (k : ℕ) → ck ≡ derivative a → gave r ≡ derivative_roots ck 15 → length r ≡ k → k ≤ 15 → out ≡ scaled v r → Listed (of_derivative v a) (Ok k) (out ++ t)
derived_next v a ck r out t k d e h most o =
    let z : take k (out ++ t) ≡ scaled v r = rw o (take_at (scaled v r) t k (length-scaled v r ∙ h)) in
    record { is = rw (z, ← d, ← e); most = most }

pub derived_stop : (v : Interval) (a ck : List Float) {n : ℕ} → ck ≡ derivative a → refused n ≡ derivative_roots ck 15 → refused n ≡ of_derivative v a
derived_stop v a ck d e = rw (← d) (bind_stop _ e)

-- ---- what lies inside is the candidates at those places
bind-bind : {A B C : Type 0} (o : Outcome A) (f : A → Outcome B) (g : B → Outcome C) → bind (bind o f) g ≡ bind o (λ a. bind (f a) g)
bind-bind (refused n) f g = refl
bind-bind (gave a) f g = refl

module _ (c : Curve) (v : Interval) (l : List Candidate) where
  at_derivative : (a : List Float) → bind (of_derivative v a) (λ places. candidates_for c places l) ≡ of_coefficients c v a l
  unfolding of_coefficients at_roots
  at_derivative a =
      bind-bind (bind (colleague_for (derivative a)) (λ m. roots_for m 15)) (λ r. gave (scaled v r)) (λ places. candidates_for c places l)
      ∙ bind-bind (colleague_for (derivative a)) (λ m. roots_for m 15) (λ r. candidates_for c (scaled v r) l)

  at_nodes : (e : List Float) → bind (of_nodes v e) (λ places. candidates_for c places l) ≡ of_errors c v e l
  unfolding of_errors of_nodes
  at_nodes e =
      bind-bind (coefficients_for e (length e)) (of_derivative v) (λ places. candidates_for c places l)
      ∙ (λ j. bind (coefficients_for e (length e)) (λ a. at_derivative a j))

  pub inside_is : (nodes : List Float) → bind (places_in c nodes v) (λ places. candidates_for c places l) ≡ inside_of c nodes v l
  unfolding inside_of places_in
  inside_is nodes =
      bind-bind (errors_for c (scaled v nodes)) (of_nodes v) (λ places. candidates_for c places l)
      ∙ (λ j. bind (errors_for c (scaled v nodes)) (λ e. at_nodes e j))

-- and so for one subinterval after another
pub sweep-inside : (c : Curve) (nodes : List Float) (vs : List Interval) (l : List Candidate) → sweep (λ v l. bind (places_in c nodes v) (λ places. candidates_for c places l)) vs l ≡ sweep (inside_of c nodes) vs l
sweep-inside c nodes vs l j = sweep (λ v s. inside_is c v s nodes j) vs l
