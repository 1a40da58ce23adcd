-- How many candidates there are: two for each subinterval, and up to fifteen more inside it. Assumes nothing.
use Prim.Native.Nat.{ℕ, ◌+◌, ◌*◌, ◌≤◌}
use mathlib.Core.Path.{◌≡◌, refl, sym, ap, ◌∙◌}
use mathlib.Core.Bool.{Bool, true, false, cond}
use mathlib.Core.List.{List, [], ◌∷◌, ◌++◌}
use native.Mathlib.Omega.{arith}
use native.Mathlib.Nat.{mul-suc}
use borrow.Author.Tests.{eqb-true}
use lib.Dec.{eqb}
use lib.ListN.{length, get_or, length-append}
use lib.Ieee.{Float, nan}
use Rattle.numbers.specs.Outcome.{Outcome, gave, bind, sweep}
use Rattle.numbers.proofs.Given.{gave_same, bind_given}
use Rattle.numbers.proofs.LoopLaws.{length-tab}
use Rattle.chebyshev.specs.Coefficients.{coefficients_for}
use Rattle.colleague.specs.Answer.{colleague_for}
use Rattle.colleague.proofs.Given.{given_bounded}
use Rattle.fir_types.specs.declared.edges.Interval.{Interval}
use Rattle.pruning.specs.declared.candidates.Candidate.{Candidate}
use Rattle.roots.specs.Answer.{roots_for}
use Rattle.roots.proofs.Given.{roots_few}
use Rattle.extrema.specs.Errors.{Curve, errors_for}
use Rattle.extrema.specs.Candidates.{candidate, joined, candidates_for}
use Rattle.extrema.specs.Proxy.{ends_of, scaled, derivative, at_roots, of_coefficients, of_errors, inside_of}
use Rattle.extrema.specs.Extrema.{collected}
use Rattle.extrema.proofs.ProxyLaws.{length-scaled}

-- from a candidates to b: at least `few` more and at most `many`
pub record Grows (few many a b : ℕ) : Type 0 where
  pub least : a + few ≤ b
  pub most : b ≤ a + many

-- what every turn adds, a sweep adds as often as it turns
sweep_grows :
    {A : Type 0} (f : A → List Candidate → Outcome (List Candidate)) (few many : ℕ)
    → ((x : A) (s t : List Candidate) → f x s ≡ gave t → Grows few many (length s) (length t))
    → (xs : List A) (s t : List Candidate) → sweep f xs s ≡ gave t → Grows (few * length xs) (many * length xs) (length s) (length t)
unfolding sweep
sweep_grows f few many h [] s t e =
    let z : length s ≡ length t = ap length (gave_same e) in
    record { least = omega arith; most = omega arith }
sweep_grows f few many h (x ∷ xs) s t e =
    let b = bind_given (f x s) (sweep f xs) e in
    let g = h x s b.value b.given in
    let r = sweep_grows f few many h xs b.value t b.rest in
    record {
      least = omega (arith, mul-suc few (length xs), g.least, r.least);
      most = omega (arith, mul-suc many (length xs), g.most, r.most);
    }

module _ (c : Curve) where
  candidates_grow : (places : List Float) (l t : List Candidate) → candidates_for c places l ≡ gave t → length t ≡ length l + length places
  unfolding candidates_for
  candidates_grow places l t e = pick (eqb (length places) 0) (λ h. eqb-true (length places) 0 h) e
    where
      pick : (b : Bool) → (b ≡ true → length places ≡ 0) → cond b (gave l) (bind (errors_for c places) (λ e. gave (l ++ joined places e))) ≡ gave t
          → length t ≡ length l + length places
      pick true z q = let k : length l ≡ length t = ap length (gave_same q) in let n = z refl in omega arith
      pick false z q =
          let b = bind_given (errors_for c places) (λ e. gave (l ++ joined places e)) q in
          let g : ℕ → Candidate = λ i. candidate (get_or places i nan) (get_or b.value i nan) in
          sym (ap length (gave_same b.rest)) ∙ length-append l (joined places b.value) ∙ ap (λ k. length l + k) (length-tab g (length places) 0)

  ends_grow : (v : Interval) (l t : List Candidate) → ends_of c v l ≡ gave t → Grows 2 2 (length l) (length t)
  ends_grow v l t e =
      let z : length t ≡ length l + 2 = candidates_grow (v.begin ∷ v.end ∷ []) l t e in
      record { least = omega arith; most = omega arith }

  inside_grow : (nodes : List Float) (v : Interval) (l t : List Candidate) → inside_of c nodes v l ≡ gave t → Grows 0 15 (length l) (length t)
  unfolding inside_of of_errors of_coefficients at_roots
  inside_grow nodes v l t q =
      let e = bind_given (errors_for c (scaled v nodes)) (λ e. of_errors c v e l) q in
      let a = bind_given (coefficients_for e.value (length e.value)) (λ a. of_coefficients c v a l) e.rest in
      let m = bind_given (colleague_for (derivative a.value)) (λ m. at_roots c v m l) a.rest in
      let r = bind_given (roots_for m.value 15) (λ r. candidates_for c (scaled v r) l) m.rest in
      let b = (given_bounded (derivative a.value) m.value m.given).size in
      let f = roots_few m.value 15 r.value r.given in
      let z = candidates_grow (scaled v r.value) l t r.rest in
      let k = length-scaled v r.value in
      record { least = omega (arith, z, k); most = omega (arith, z, k, f, b) }

  pub collected_grow : (nodes : List Float) (vs : List Interval) (l : List Candidate) → collected c nodes vs ≡ gave l → Grows (2 * length vs) (17 * length vs) 0 (length l)
  unfolding collected
  collected_grow nodes vs l e =
      let b = bind_given (sweep (ends_of c) vs []) (sweep (inside_of c nodes) vs) e in
      let g = sweep_grows (ends_of c) 2 2 ends_grow vs [] b.value b.given in
      let h = sweep_grows (inside_of c nodes) 0 15 (inside_grow nodes) vs b.value l b.rest in
      record { least = omega (arith, g.least, h.least); most = omega (arith, g.most, h.most) }
