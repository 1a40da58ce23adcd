-- Within the limits a search is refused with 9, 10, 11, 12 or 13 alone, as a step of a job is (document 01). Assumes nothing.
use Prim.Native.Nat.{ℕ, ◌+◌, ◌-◌, ◌≤◌}
use mathlib.Core.Path.{◌≡◌, refl, ◌∙◌}
use mathlib.Core.Bool.{Bool, true, false, cond}
use mathlib.Core.List.{List, [], ◌∷◌, ◌++◌, map}
use native.Mathlib.Omega.{arith}
use borrow.Author.Tests.{eqb-false}
use lib.Dec.{eqb}
use lib.ListN.{length, get_or, length-map}
use lib.Ieee.{Float, nan}
use Rattle.numbers.specs.Operations.{◌⊖◌, ◌⊗◌}
use Rattle.numbers.specs.Outcome.{gave, bind, sweep, needed_of}
use Rattle.numbers.proofs.LoopLaws.{length-tab}
use Rattle.numbers.proofs.Refusing.{Refuses, Only, refuses_weaker, refuses_gave, refuses_bind, refuses_gather, refuses_sweep, refuses_needed}
use Rattle.angles.specs.Arccosine.{arccosine_of}
use Rattle.angles.proofs.Refused.{arccosine_refuses}
use Rattle.bands.specs.declared.Symmetry.{Symmetry}
use Rattle.bands.specs.declared.Plan.{Plan}
use Rattle.barycentric.specs.Response.{responses_for}
use Rattle.barycentric.proofs.Refused.{responses_refuse}
use Rattle.chebyshev.specs.Angles.{whole}
use Rattle.chebyshev.specs.Nodes.{nodes_for}
use Rattle.chebyshev.specs.Coefficients.{coefficients_for}
use Rattle.chebyshev.proofs.Given.{nodes_length, coefficients_length}
use Rattle.chebyshev.proofs.Refused.{nodes_refuse, coefficients_refuse}
use Rattle.colleague.specs.declared.Colleague.{Colleague}
use Rattle.colleague.specs.Answer.{colleague_for}
use Rattle.colleague.proofs.Given.{given_bounded}
use Rattle.colleague.proofs.Refuses.{colleague_refuses}
use Rattle.fir_types.specs.Adjusted.{adjusted_desired, adjusted_weight}
use Rattle.fir_types.specs.declared.edges.Interval.{Interval}
use Rattle.fir_types.proofs.Refused.{desired_refuses, weight_refuses}
use Rattle.pruning.specs.declared.candidates.Candidate.{Candidate}
use Rattle.pruning.specs.Errors.{prune_for}
use Rattle.pruning.specs.Sort.{sorted, by_x}
use Rattle.pruning.proofs.Sorted.{length_sorted}
use Rattle.pruning.proofs.Refused.{pruning_refuses}
use Rattle.roots.specs.Answer.{roots_for}
use Rattle.roots.proofs.Given.{roots_few}
use Rattle.roots.proofs.Refused.{roots_refuse}
use Rattle.extrema.specs.Errors.{Curve, weighted, error_at, error_from, errors_from, errors_for}
use Rattle.extrema.specs.Candidates.{joined, candidates_for}
use Rattle.extrema.specs.Proxy.{ends_of, scaled, derivative, at_roots, of_coefficients, of_errors, inside_of}
use Rattle.extrema.specs.Extrema.{error_of, chosen, kept_of, pruned_to, collected, extrema_of}
use Rattle.extrema.proofs.ErrorLaws.{errors_given}
use Rattle.extrema.proofs.ProxyLaws.{length-scaled}
use Rattle.extrema.proofs.Growth.{collected_grow}

-- the refusals of a step
abbrev pub OfStep : ℕ → Type 0
OfStep n = (9 ≤ n) × (n ≤ 13)

-- points, weights and abscissas: as many of each, 1 to 65
pub record Alike (c : Curve) : Type 0 where
  pub some : 1 ≤ length c.x
  pub most : length c.x ≤ 65
  pub weights : length c.weights ≡ length c.x
  pub abscissas : length c.abscissas ≡ length c.x

nine_only : (n : ℕ) → Only 9 n → OfStep n
nine_only n e = (omega arith, omega arith)

error_refuses : (p : Plan) (s : Symmetry) (odd : Bool) (x0 h : Float) → Refuses (Only 9) (error_from p s odd x0 h)
unfolding error_from
error_refuses p s odd x0 h =
    refuses_bind (arccosine_of x0) (λ f. error_at p s odd f h) (arccosine_refuses x0)
    (λ f e. refuses_bind (adjusted_desired p s odd f) (weighted p s odd f h) (desired_refuses p s odd f)
    (λ d e. refuses_bind (adjusted_weight p s odd f) (λ w. needed_of (w ⊗ (d ⊖ h))) (weight_refuses p s odd f) (λ w e. refuses_needed (w ⊗ (d ⊖ h)))))

length-derivative : (a : List Float) → length (derivative a) ≡ length a - 1
length-derivative a = length-tab (λ i. whole (i + 1) ⊗ get_or a (i + 1) nan) (length a - 1) 0

module _ (c : Curve) (s : Alike c) where
  errors_refuse : (places : List Float) → 1 ≤ length places → length places ≤ 65 → Refuses (Only 9) (errors_for c places)
  unfolding errors_for
  errors_refuse places a b =
      let m = length places in
      refuses_bind (responses_for places c.x c.weights c.abscissas m) (errors_from c.plan c.symmetry c.odd places)
      (responses_refuse places c.x c.weights c.abscissas m a b (omega arith) s.some s.most s.weights s.abscissas)
      (λ h e. refuses_gather (λ i. error_from c.plan c.symmetry c.odd (get_or places i nan) (get_or h i nan)) m 0
      (λ j p q. error_refuses c.plan c.symmetry c.odd (get_or places j nan) (get_or h j nan)))

  candidates_refuse : (places : List Float) (l : List Candidate) → length places ≤ 65 → Refuses (Only 9) (candidates_for c places l)
  unfolding candidates_for
  candidates_refuse places l h = pick (eqb (length places) 0) (λ e. eqb-false (length places) 0 e)
    where
      pick : (t : Bool) → (t ≡ false → length places ≡ 0 → ⊥) → Refuses (Only 9) (cond t (gave l) (bind (errors_for c places) (λ e. gave (l ++ joined places e))))
      pick true z = refuses_gave l
      pick false z =
          let k = z refl in
          refuses_bind (errors_for c places) (λ e. gave (l ++ joined places e)) (errors_refuse places (omega (arith, k)) h) (λ e q. refuses_gave (l ++ joined places e))

  -- ---- one leaf after another
  roots_at : (v : Interval) (m : Colleague) (l : List Candidate) → m.size ≤ 15 → Refuses OfStep (at_roots c v m l)
  unfolding at_roots
  roots_at v m l h =
      refuses_bind (roots_for m 15) (λ r. candidates_for c (scaled v r) l) (roots_refuse (omega arith, omega arith) (omega arith, omega arith) m 15 h h)
      (λ r e. refuses_weaker nine_only (candidates_refuse (scaled v r) l (omega (arith, roots_few m 15 r e, length-scaled v r))))

  coefficients_at : (v : Interval) (a : List Float) (l : List Candidate) → 2 ≤ length a → length a ≤ 17 → Refuses OfStep (of_coefficients c v a l)
  unfolding of_coefficients
  coefficients_at v a l h k =
      let d = length-derivative a in
      refuses_bind (colleague_for (derivative a)) (λ m. at_roots c v m l)
      (colleague_refuses (omega arith, omega arith) (omega arith, omega arith) (omega arith, omega arith) (derivative a) (omega (arith, d)) (omega (arith, d)))
      (λ m e. roots_at v m l (given_bounded (derivative a) m e).size)

  errors_at : (v : Interval) (e : List Float) (l : List Candidate) → 2 ≤ length e → length e ≤ 17 → Refuses OfStep (of_errors c v e l)
  unfolding of_errors
  errors_at v e l h k =
      refuses_bind (coefficients_for e (length e)) (λ a. of_coefficients c v a l)
      (refuses_weaker nine_only (coefficients_refuse e (length e) h (omega arith) (omega arith)))
      (λ a q. let z = coefficients_length e a (length e) q in coefficients_at v a l (omega (arith, z)) (omega (arith, z)))

  inside_refuses : (nodes : List Float) → 2 ≤ length nodes → length nodes ≤ 17 → (v : Interval) (l : List Candidate) → Refuses OfStep (inside_of c nodes v l)
  unfolding inside_of
  inside_refuses nodes h k v l =
      let z = length-scaled v nodes in
      refuses_bind (errors_for c (scaled v nodes)) (λ e. of_errors c v e l)
      (refuses_weaker nine_only (errors_refuse (scaled v nodes) (omega (arith, z)) (omega (arith, z))))
      (λ e q. let y = (errors_given c (scaled v nodes) e q).long in errors_at v e l (omega (arith, y, z)) (omega (arith, y, z)))

  collected_refuses : (nodes : List Float) (vs : List Interval) → 2 ≤ length nodes → length nodes ≤ 17 → Refuses OfStep (collected c nodes vs)
  unfolding collected
  collected_refuses nodes vs h k =
      refuses_bind (sweep (ends_of c) vs []) (sweep (inside_of c nodes) vs)
      (refuses_sweep (ends_of c) vs [] (λ v l. refuses_weaker nine_only (candidates_refuse (v.begin ∷ v.end ∷ []) l (omega arith))))
      (λ l e. refuses_sweep (inside_of c nodes) vs l (inside_refuses nodes h k))

  pruned_refuses : (n : ℕ) (l : List Candidate) → 1 ≤ length l → length l ≤ 1241 → Refuses OfStep (pruned_to n l)
  unfolding pruned_to kept_of
  pruned_refuses n l h k =
      let e = map error_of (sorted by_x l) in
      let z : length e ≡ length l = length-map (sorted by_x l) error_of ∙ length_sorted by_x l in
      refuses_bind (prune_for e n n) (λ places. gave (chosen (sorted by_x l) places))
      (pruning_refuses e n (omega arith, omega arith) (omega arith, omega arith) n (omega arith) (omega arith) (omega arith))
      (λ places q. refuses_gave (chosen (sorted by_x l) places))

  pub extrema_refuse : (vs : List Interval) (degree n : ℕ) → 1 ≤ length vs → length vs ≤ 73 → 2 ≤ degree → degree ≤ 16 → Refuses OfStep (extrema_of c vs degree n)
  unfolding extrema_of
  extrema_refuse vs degree n a b h k =
      refuses_bind (nodes_for degree (degree + 1)) (λ nodes. bind (collected c nodes vs) (pruned_to n))
      (refuses_weaker nine_only (nodes_refuse degree (degree + 1) (omega arith) h k))
      (λ nodes e. let z = nodes_length degree (degree + 1) nodes e in
      refuses_bind (collected c nodes vs) (pruned_to n) (collected_refuses nodes vs (omega (arith, z)) (omega (arith, z)))
      (λ l q. let g = collected_grow c nodes vs l q in pruned_refuses n l (omega (arith, g.least)) (omega (arith, g.most))))
