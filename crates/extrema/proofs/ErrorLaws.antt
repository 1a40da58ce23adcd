-- What errors that were given tell: they and their places are finite, and there is one for each place. Assumes nothing.
use Rattle.std.specs.Prelude.{Result, Ok}
use Prim.Native.Nat.{ℕ, ◌+◌, ◌<◌, ◌≤◌}
use mathlib.Core.Path.{◌≡◌, refl}
use mathlib.Core.Bool.{Bool, true, ◌&&◌}
use mathlib.Core.List.{List}
use native.Mathlib.Omega.{arith}
use lib.Dec.{T, leb}
use lib.ListN.{length, get_or}
use lib.Seq.{take_all}
use lib.Ieee.{Float, nan, binary64, fits}
use lib.Ieee.Fits.{mul-fits}
use lib.Ieee.Scale.{finite}
use Rattle.numbers.specs.Floats.{all_finite}
use Rattle.numbers.specs.Operations.{◌⊖◌, ◌⊗◌}
use Rattle.numbers.specs.Outcome.{Outcome, gave, unless, needed_of, needed_list_of}
use Rattle.numbers.specs.Refusals.{Filled}
use Rattle.numbers.specs.declared.Refusal.{Refusal}
use Rattle.numbers.proofs.Order.{and_1}
use Rattle.numbers.proofs.OutcomeLaws.{filled_is}
use Rattle.numbers.proofs.Given.{gave_same, unless_given, bind_given, gather-length, gather-at, gather_finite}
use Rattle.numbers.proofs.FiniteLaws.{given_finite}
use Rattle.angles.specs.Arccosine.{arccosine_of}
use Rattle.bands.specs.declared.Symmetry.{Symmetry}
use Rattle.bands.specs.declared.Plan.{Plan}
use Rattle.barycentric.specs.Limits.{sized, three_alike, three_finite}
use Rattle.barycentric.specs.Response.{responses_of, responses_for}
use Rattle.fir_types.specs.Adjusted.{adjusted_desired, adjusted_weight}
use Rattle.extrema.specs.Errors.{Curve, weighted, error_at, error_from, errors_from, errors_for}

-- a leaf that has filled the whole of a list
pub filled_whole : {A : Type 0} {o : Outcome (List A)} {n : ℕ} {r : Result Unit Refusal} {w w' : List A} → Filled o n r w w' → length w' ≡ n → r ≡ (Ok tt) → gave w' ≡ o
filled_whole {A} {o} {n} {r} {w} {w'} a e h = let l : length w' ≤ n = omega arith in rw (take_all n w' l) at (filled_is a n refl h)

-- an error that was given is finite, and as a rounded product a number of 64 bits
record Known (e : Float) : Type 0 where
  number : finite e ≡ true
  fit : T (fits binary64 e)

error_known : (p : Plan) (s : Symmetry) (odd : Bool) (x0 h e : Float) → error_from p s odd x0 h ≡ gave e → Known e
unfolding error_from
error_known p s odd x0 h e q =
    let a = bind_given (arccosine_of x0) (λ f. error_at p s odd f h) q in
    let f = a.value in
    let b = bind_given (adjusted_desired p s odd f) (weighted p s odd f h) a.rest in
    let c = bind_given (adjusted_weight p s odd f) (λ w. needed_of (w ⊗ (b.value ⊖ h))) b.rest in
    let z = c.value ⊗ (b.value ⊖ h) in
    let same : z ≡ e = gave_same (unless_given (finite z) 9 (gave z) c.rest).rest in
    record { number = given_finite z e c.rest; fit = rw (← same) (mul-fits binary64 c.value (b.value ⊖ h)) }

-- places at which there are responses are finite
places_finite : (c : Curve) (places h : List Float) → responses_for places c.x c.weights c.abscissas (length places) ≡ gave h → all_finite places ≡ true
unfolding responses_for
places_finite c places h q =
    let m = length places in
    let last = needed_list_of (responses_of places c.x c.weights c.abscissas) m in
    let three = three_finite c.x c.weights c.abscissas in
    let a = unless_given
    (sized m && three_alike (length c.x) (length c.weights) (length c.abscissas) && leb m m)
    15
    (unless (all_finite places && three) 9 last)
    q in
    and_1 (all_finite places) three (unless_given (all_finite places && three) 9 last a.rest).test

pub record Given (places e : List Float) : Type 0 where
  pub places_are : all_finite places ≡ true
  pub errors_are : all_finite e ≡ true
  pub errors_fit : (i : ℕ) → i < length places → T (fits binary64 (get_or e i nan))
  pub long : length e ≡ length places

pub errors_given : (c : Curve) (places e : List Float) → errors_for c places ≡ gave e → Given places e
unfolding errors_for
errors_given c places e q =
    let a = bind_given (responses_for places c.x c.weights c.abscissas (length places)) (errors_from c.plan c.symmetry c.odd places) q in
    let g : ℕ → Outcome Float = λ i. error_from c.plan c.symmetry c.odd (get_or places i nan) (get_or a.value i nan) in
    let known : (j : ℕ) (y : Float) → g j ≡ gave y → Known y =
    λ j y. error_known c.plan c.symmetry c.odd (get_or places j nan) (get_or a.value j nan) y
    in
    record {
      places_are = places_finite c places a.value a.given;
      errors_are = gather_finite g (λ j y q. (known j y q).number) (length places) 0 e a.rest;
      errors_fit = λ i h. (known (0 + i) (get_or e i nan) (gather-at g (length places) 0 e i nan a.rest h)).fit;
      long = gather-length g (length places) 0 e a.rest;
    }
