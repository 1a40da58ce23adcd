-- What a search gives, on the definitions alone: n candidates whose errors alternate in sign, each at a finite place from -1 to 1 with
-- a finite error that is a number of 64 bits. (Which refusals it can be: `extrema_refuse` of proofs/Refused.) Assumes nothing.
use Prim.Native.Nat.{ℕ, zero, suc, ◌+◌, ◌≤◌, ◌<◌}
use mathlib.Core.Path.{◌≡◌, refl, ◌∙◌}
use mathlib.Core.Bool.{Bool, true, false, cond}
use mathlib.Core.List.{List, [], ◌∷◌, ◌++◌, map}
use native.Mathlib.Omega.{arith}
use native.Mathlib.Nat.{zero-add}
use lib.Dec.{T, eqb}
use lib.ListN.{length, get_or, length-map}
use lib.Ieee.{Float, nan, binary64, neg, lt, le, is_nan, of_bits, fits}
use lib.Ieee.Scale.{finite}
use Rattle.numbers.specs.Floats.{zero64, one64, Inside}
use Rattle.numbers.specs.Loops.{tab}
use Rattle.numbers.specs.Outcome.{Outcome, gave, bind, sweep}
use Rattle.numbers.proofs.Given.{gave_same, bind_given, gather-at}
use Rattle.numbers.proofs.FiniteLaws.{finite_at, inside_finite}
use Rattle.numbers.proofs.InPlace.{map-tab}
use Rattle.angles.specs.Arccosine.{arccosine_of}
use Rattle.angles.proofs.Range.{arccosine_domain}
use Rattle.barycentric.specs.Response.{responses_for}
use Rattle.chebyshev.specs.Nodes.{nodes_for}
use Rattle.chebyshev.specs.Coefficients.{coefficients_for}
use Rattle.colleague.specs.Answer.{colleague_for}
use Rattle.fir_types.specs.declared.edges.Interval.{Interval}
use Rattle.pruning.specs.declared.candidates.Candidate.{Candidate}
use Rattle.pruning.specs.Alternation.{AlternateFrom, Alternate}
use Rattle.pruning.specs.Candidates.{none}
use Rattle.pruning.specs.Errors.{negative_at, prune_for}
use Rattle.pruning.specs.Sort.{insert, onto, sorted, by_x}
use Rattle.pruning.proofs.Places.{leaf_gives}
use Rattle.roots.specs.Answer.{roots_for}
use Rattle.extrema.specs.Errors.{Curve, error_at, error_from, errors_from, errors_for}
use Rattle.extrema.specs.Candidates.{candidate, joined, candidates_for}
use Rattle.extrema.specs.Proxy.{ends_of, scaled, derivative, at_roots, of_coefficients, of_errors, inside_of}
use Rattle.extrema.specs.Extrema.{error_of, chosen, kept_of, pruned_to, collected, extrema_of}
use Rattle.extrema.proofs.ErrorLaws.{errors_given}

-- ---- a candidate that stands where an error can be: from -1 to 1, with a finite error
pub record Placed (c : Candidate) : Type 0 where
  pub inside : Inside (neg one64) one64 c.x
  pub known : finite c.error ≡ true
  pub fit : T (fits binary64 c.error)

unfoldable EachPlaced : List Candidate → Type 0
EachPlaced [] = Unit {0}
EachPlaced (c ∷ l) = Placed c × EachPlaced l

none-placed : Placed none
unfolding is_nan le of_bits neg fits
none-placed = record { inside = record { number = refl; least = refl; most = refl }; known = refl; fit = tt }

-- past the end stands none, which is placed too
placed_at : (l : List Candidate) (i : ℕ) → EachPlaced l → Placed (get_or l i none)
unfolding EachPlaced
placed_at [] i p = none-placed
placed_at (c ∷ l) zero p = p.0
placed_at (c ∷ l) (suc i) p = placed_at l i p.1

placed-append : (l m : List Candidate) → EachPlaced l → EachPlaced m → EachPlaced (l ++ m)
unfolding EachPlaced
placed-append [] m p q = q
placed-append (c ∷ l) m p q = (p.0, placed-append l m p.1 q)

placed-tab : (g : ℕ → Candidate) (n i : ℕ) → ((k : ℕ) → i ≤ k → k < i + n → Placed (g k)) → EachPlaced (tab g n i)
unfolding EachPlaced tab
placed-tab g zero i h = tt
placed-tab g (suc n) i h = (h i (omega arith) (omega arith), placed-tab g n (i + 1) (λ k p q. h k (omega arith) (omega arith)))

placed-insert : (c : Candidate) (l : List Candidate) → Placed c → EachPlaced l → EachPlaced (insert by_x c l)
unfolding EachPlaced insert
placed-insert c [] p q = (p, tt)
placed-insert c (y ∷ l) p q = pick (lt (by_x c) (by_x y)) (placed-insert c l p q.1)
  where
    pick : (t : Bool) → EachPlaced (insert by_x c l) → EachPlaced (cond t (c ∷ y ∷ l) (y ∷ insert by_x c l))
    pick true r = (p, q)
    pick false r = (q.0, r)

placed-onto : (s l : List Candidate) → EachPlaced s → EachPlaced l → EachPlaced (onto by_x s l)
unfolding EachPlaced onto
placed-onto s [] p q = p
placed-onto s (c ∷ l) p q = placed-onto (insert by_x c s) l (placed-insert c s q.0 p) q.1

placed-sorted : (l : List Candidate) → EachPlaced l → EachPlaced (sorted by_x l)
unfolding EachPlaced
placed-sorted l q = placed-onto [] l tt q

placed-sweep :
    (f : Interval → List Candidate → Outcome (List Candidate)) → ((v : Interval) (s t : List Candidate) → EachPlaced s → f v s ≡ gave t → EachPlaced t)
    → (vs : List Interval) (s t : List Candidate) → EachPlaced s → sweep f vs s ≡ gave t → EachPlaced t
unfolding sweep
placed-sweep f h [] s t p e = let z : s ≡ t = gave_same e in rw (← z) p
placed-sweep f h (v ∷ vs) s t p e = let b = bind_given (f v s) (sweep f vs) e in placed-sweep f h vs b.value t (h v s b.value p b.given) b.rest

-- ---- where there is an error, the place has an arccosine
module _ (c : Curve) where
  errors_inside : (places e : List Float) → errors_for c places ≡ gave e → (i : ℕ) → i < length places → Inside (neg one64) one64 (get_or places i nan)
  unfolding errors_for error_from
  errors_inside places e q i h =
      let b = bind_given (responses_for places c.x c.weights c.abscissas (length places)) (errors_from c.plan c.symmetry c.odd places) q in
      let g : ℕ → Outcome Float = λ j. error_from c.plan c.symmetry c.odd (get_or places j nan) (get_or b.value j nan) in
      let z = gather-at g (length places) 0 e i nan b.rest h in
      let x0 = get_or places (0 + i) nan in
      let a = bind_given (arccosine_of x0) (λ f. error_at c.plan c.symmetry c.odd f (get_or b.value (0 + i) nan)) z in
      rw zero-add at (arccosine_domain x0 a.value a.given)

  joined_placed : (places e : List Float) → errors_for c places ≡ gave e → EachPlaced (joined places e)
  joined_placed places e q =
      let g = errors_given c places e q in
      placed-tab (λ i. candidate (get_or places i nan) (get_or e i nan)) (length places) 0
      (λ k a b. record { inside = errors_inside places e q k (below k b); known = finite_at e k g.errors_are (omega (arith, below k b, g.long)); fit = g.errors_fit k (below k b) })
    where
      below : (k : ℕ) → k < 0 + length places → k < length places
      below k h = omega arith

  candidates_placed : (places : List Float) (l t : List Candidate) → EachPlaced l → candidates_for c places l ≡ gave t → EachPlaced t
  unfolding candidates_for
  candidates_placed places l t p e = pick (eqb (length places) 0) e
    where
      pick : (b : Bool) → cond b (gave l) (bind (errors_for c places) (λ e. gave (l ++ joined places e))) ≡ gave t → EachPlaced t
      pick true q = let z : l ≡ t = gave_same q in rw (← z) p
      pick false q =
          let b = bind_given (errors_for c places) (λ e. gave (l ++ joined places e)) q in
          let z : l ++ joined places b.value ≡ t = gave_same b.rest in
          rw (← z) (placed-append l (joined places b.value) p (joined_placed places b.value b.given))

  inside_placed : (nodes : List Float) (v : Interval) (l t : List Candidate) → EachPlaced l → inside_of c nodes v l ≡ gave t → EachPlaced t
  unfolding inside_of of_errors of_coefficients at_roots
  inside_placed nodes v l t p q =
      let e = bind_given (errors_for c (scaled v nodes)) (λ e. of_errors c v e l) q in
      let a = bind_given (coefficients_for e.value (length e.value)) (λ a. of_coefficients c v a l) e.rest in
      let m = bind_given (colleague_for (derivative a.value)) (λ m. at_roots c v m l) a.rest in
      let r = bind_given (roots_for m.value 15) (λ r. candidates_for c (scaled v r) l) m.rest in
      candidates_placed (scaled v r.value) l t p r.rest

  collected_placed : (nodes : List Float) (vs : List Interval) (l : List Candidate) → collected c nodes vs ≡ gave l → EachPlaced l
  unfolding collected EachPlaced
  collected_placed nodes vs l e =
      let b = bind_given (sweep (ends_of c) vs []) (sweep (inside_of c nodes) vs) e in
      let p = placed-sweep (ends_of c) (λ v s t. candidates_placed (v.begin ∷ v.end ∷ []) s t) vs [] b.value tt b.given in
      placed-sweep (inside_of c nodes) (inside_placed nodes) vs b.value l p b.rest

-- ---- those that are kept
abbrev pub negative : Candidate → Bool
negative c = lt c.error zero64

-- past the end no error is negative, as a list of errors or of candidates
negative_same : (l : List Candidate) (i : ℕ) → negative_at (map error_of l) i ≡ negative (get_or l i none)
unfolding lt of_bits
negative_same [] i = refl
negative_same (c ∷ l) zero = refl
negative_same (c ∷ l) (suc i) = negative_same l i

module _ (s : List Candidate) where
  chosen_from : (z : Bool) (places : List ℕ) → AlternateFrom (negative_at (map error_of s)) z places → AlternateFrom negative z (map (λ k. get_or s k none) places)
  unfolding AlternateFrom
  chosen_from z [] a = tt
  chosen_from z (k ∷ places) a =
      let e = negative_same s k in
      (rw e at a.0, chosen_from (negative (get_or s k none)) places (rw e at a.1))

  chosen_alternate : (places : List ℕ) → Alternate (negative_at (map error_of s)) places → Alternate negative (map (λ k. get_or s k none) places)
  unfolding Alternate
  chosen_alternate [] a = tt
  chosen_alternate (k ∷ places) a = chosen_from (negative (get_or s k none)) places (rw (negative_same s k) at a)

  chosen_placed : (places : List ℕ) → EachPlaced s → EachPlaced (map (λ k. get_or s k none) places)
  unfolding EachPlaced
  chosen_placed [] p = tt
  chosen_placed (k ∷ places) p = (placed_at s k p, chosen_placed places p)

least_finite : finite (neg one64) ≡ true
unfolding neg of_bits
least_finite = refl

most_finite : finite one64 ≡ true
unfolding of_bits
most_finite = refl

pub record Gives (n : ℕ) (l : List Candidate) : Type 0 where
  pub count : length l ≡ n
  pub alternate : Alternate negative l
  pub inside : (i : ℕ) → i < length l → Inside (neg one64) one64 (get_or l i none).x
  pub place : (i : ℕ) → i < length l → finite (get_or l i none).x ≡ true
  pub error : (i : ℕ) → i < length l → finite (get_or l i none).error ≡ true
  pub fit : (i : ℕ) → i < length l → T (fits binary64 (get_or l i none).error)

pub extrema_given : (c : Curve) (vs : List Interval) (degree n : ℕ) (l : List Candidate) → extrema_of c vs degree n ≡ gave l → Gives n l
unfolding extrema_of pruned_to kept_of
extrema_given c vs degree n l q =
    let a = bind_given (nodes_for degree (degree + 1)) (λ nodes. bind (collected c nodes vs) (pruned_to n)) q in
    let b = bind_given (collected c a.value vs) (pruned_to n) a.rest in
    let s = sorted by_x b.value in
    let k = bind_given (prune_for (map error_of s) n n) (λ places. gave (chosen s places)) b.rest in
    let at : ℕ → Candidate = λ k. get_or s k none in
    let z : map at k.value ≡ l = map-tab at k.value 0 ∙ gave_same k.rest in
    let w = leaf_gives (map error_of s) n n k.value k.given in
    let p = chosen_placed s k.value (placed-sorted b.value (collected_placed c a.value vs b.value b.given)) in
    rw (← z)
    (record {
      count = length-map k.value at ∙ w.count;
      alternate = chosen_alternate s k.value w.alternate;
      inside = λ i h. (placed_at (map at k.value) i p).inside;
      place = λ i h. inside_finite (neg one64) one64 (get_or (map at k.value) i none).x least_finite most_finite (placed_at (map at k.value) i p).inside;
      error = λ i h. (placed_at (map at k.value) i p).known;
      fit = λ i h. (placed_at (map at k.value) i p).fit;
    })
