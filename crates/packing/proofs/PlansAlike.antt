-- Plans that differ only in the bands beyond their count hold the rules alike, look up alike and are adjusted alike. Assumes nothing.
use Prim.Native.Nat.{ℕ, zero, suc, ◌+◌, ◌-◌, min, ◌<◌, ◌≤◌}
use mathlib.Core.Path.{◌≡◌, refl, ap, ◌∙◌}
use mathlib.Core.Bool.{Bool, true, false, not, ◌&&◌, cond}
use native.Mathlib.Omega.{arith}
use borrow.Author.Tests.{ltb-true}
use lib.Dec.{leb, ltb}
use lib.Ieee.{Float, lt, eq, ne}
use lib.Ieee.Scale.{finite}
use Rattle.numbers.specs.Floats.{zero64, clamp}
use Rattle.numbers.specs.Operations.{◌⊘◌}
use Rattle.numbers.specs.Loops.{until, every}
use Rattle.numbers.specs.Outcome.{unless}
use Rattle.bands.specs.declared.Symmetry.{Symmetry}
use Rattle.bands.specs.declared.Plan.{Plan}
use Rattle.bands.specs.Lookup.{many, band_of, lookup, value_at, desired_at, weight_at}
use Rattle.bands.specs.Rules.{band_holds, apart, plan_holds}
use Rattle.fir_types.specs.declared.edges.Interval.{Interval}
use Rattle.fir_types.specs.Kinds.{tau, singular_zero, singular_nyquist}
use Rattle.angles.specs.Constants.{half}
use Rattle.fir_types.specs.Realizable.{realizable}
use Rattle.fir_types.specs.Edges.{moved, kept, adjusted}
use Rattle.fir_types.specs.Adjusted.{desired_in, weight_in, adjusted_desired, adjusted_weight}

-- loops and lists that read the same at each place
until-same : {R : Type 0} (f g : ℕ → Bool) (a b : ℕ → R) (u v : R) (n i : ℕ) → u ≡ v → ((k : ℕ) → i ≤ k → k < i + n → (f k ≡ g k) × (a k ≡ b k))
    → until f a (λ i s. s) (λ s. u) n i (tt {0}) ≡ until g b (λ i s. s) (λ s. v) n i (tt {0})
unfolding until
until-same f g a b u v zero i e h = e
until-same f g a b u v (suc n) i e h =
    let p : i ≤ i = omega arith in
    let q : i < i + suc n = omega arith in
    rw ((h i p q).0, (h i p q).1, until-same f g a b u v n (i + 1) e (λ k r t. h k (after k r) (before k t)))
  where
    after : (k : ℕ) → i + 1 ≤ k → i ≤ k
    after k r = omega arith

    before : (k : ℕ) → k < i + 1 + n → k < i + suc n
    before k t = omega arith

kept_same : (f g : ℕ → Interval) (n i : ℕ) → ((k : ℕ) → i ≤ k → k < i + n → f k ≡ g k) → kept f n i ≡ kept g n i
unfolding kept
kept_same f g zero i h = refl
kept_same f g (suc n) i h =
    let p : i ≤ i = omega arith in
    let q : i < i + suc n = omega arith in
    rw (h i p q, kept_same f g n (i + 1) (λ k r t. h k (after k r) (before k t)))
  where
    after : (k : ℕ) → i + 1 ≤ k → i ≤ k
    after k r = omega arith

    before : (k : ℕ) → k < i + 1 + n → k < i + suc n
    before k t = omega arith

module _ (p q : Plan) (count : p.count ≡ q.count) (bands : (i : ℕ) → i < q.count → band_of p i ≡ band_of q i) where
  apart_alike : (i : ℕ) → i < q.count → apart p i ≡ apart q i
  apart_alike i h = rw (count, bands i h) (go (ltb (i + 1) q.count) refl)
    where
      go : (t : Bool) → ltb (i + 1) q.count ≡ t → cond t (lt (band_of q i).end (band_of p (i + 1)).begin) true ≡ cond t (lt (band_of q i).end (band_of q (i + 1)).begin) true
      go true e = ap (λ b. lt (band_of q i).end b.begin) (bands (i + 1) (ltb-true (i + 1) q.count e))
      go false e = refl

  rules_alike : every (λ i. band_holds (band_of p i) && apart p i) q.count ≡ every (λ i. band_holds (band_of q i) && apart q i) q.count
  rules_alike = until-same _ _ _ _ true true q.count 0 refl (λ k _ h. (ap not (same k (omega (arith, h))), refl))
    where
      same : (k : ℕ) → k < q.count → (band_holds (band_of p k) && apart p k) ≡ (band_holds (band_of q k) && apart q k)
      same k h = ap (λ b. band_holds b && apart p k) (bands k h) ∙ ap (λ t. band_holds (band_of q k) && t) (apart_alike k h)

  -- the rules
  pub plans_hold : plan_holds p ≡ plan_holds q
  unfolding plan_holds
  plans_hold =
      ap (λ n. leb 1 n && leb n 8 && every (λ i. band_holds (band_of p i) && apart p i) n) count
      ∙ ap (λ t. leb 1 q.count && leb q.count 8 && t) rules_alike

  -- ---- of plans with a band
  module _ (least : 1 ≤ q.count) where
    many_alike : many p ≡ many q
    many_alike = ap (λ n. min n 8) count

    last_alike : band_of p (many p - 1) ≡ band_of q (many q - 1)
    last_alike = ap (λ n. band_of p (n - 1)) many_alike ∙ bands (many q - 1) (omega arith)

    -- the lookup
    lookups : (f : Float) → lookup p f ≡ lookup q f
    unfolding lookup
    lookups f =
        ap (λ n. until (λ i. not (lt (band_of p i).end f)) (band_of p) (λ i s. s) (λ s. band_of p (many p - 1)) n 0 (tt {0})) many_alike
        ∙ until-same (λ i. not (lt (band_of p i).end f)) (λ i. not (lt (band_of q i).end f)) (band_of p) (band_of q) (band_of p (many p - 1)) (band_of q (many q - 1)) (many q) 0 last_alike
        (λ k _ h. both k (omega (arith, h)))
      where
        both : (k : ℕ) → k < q.count → (not (lt (band_of p k).end f) ≡ not (lt (band_of q k).end f)) × (band_of p k ≡ band_of q k)
        both k h = (ap (λ b. not (lt b.end f)) (bands k h), bands k h)

    pub desired_alike : desired_at p ≡ desired_at q
    unfolding desired_at
    desired_alike = λ t f. value_at (lookups f t).desired (lookups f t).begin (lookups f t).end (clamp (lookups f t).begin (lookups f t).end f)

    pub weight_alike : weight_at p ≡ weight_at q
    unfolding weight_at
    weight_alike = λ t f. value_at (lookups f t).weight (lookups f t).begin (lookups f t).end (clamp (lookups f t).begin (lookups f t).end f)

    -- the adjusted values
    pub desired_adjusted : adjusted_desired p ≡ adjusted_desired q
    unfolding adjusted_desired
    desired_adjusted = λ t s odd f. unless (finite f) 9 (desired_in s odd f (desired_alike t (f ⊘ tau)))

    pub weight_adjusted : adjusted_weight p ≡ adjusted_weight q
    unfolding adjusted_weight
    weight_adjusted = λ t s odd f. unless (finite f) 9 (weight_in s odd f (weight_alike t (f ⊘ tau)))

    -- the response check
    pub realizable_alike : realizable p ≡ realizable q
    unfolding realizable
    realizable_alike =
        λ t s odd.
        not (singular_zero s && (eq (bands 0 least t).begin zero64 && ne (desired_alike t zero64) zero64))
        && not (singular_nyquist s odd && (eq (last_alike t).end half && ne (desired_alike t half) zero64))

    -- the edges
    pub adjusted_alike : (s : Symmetry) (odd : Bool) → adjusted p s odd ≡ adjusted q s odd
    unfolding adjusted
    adjusted_alike s odd =
        ap (λ n. kept (λ i. moved s odd (band_of p i)) n 0) count
        ∙ kept_same (λ i. moved s odd (band_of p i)) (λ i. moved s odd (band_of q i)) q.count 0 (λ k _ h. ap (moved s odd) (bands k (omega (arith, h))))
