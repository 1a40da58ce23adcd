-- Whatever is given, a cosine or a sine that is answered lies in -1 to 1 and an arccosine in 0 to PI, none of them a NaN; an
-- arccosine is an angle that cosine and sine take; and what has one lies in -1 to 1. Assumes nothing.
use mathlib.Core.Path.{◌≡◌, refl}
use mathlib.Core.Bool.{Bool, true, false, cond}
use Prim.Native.Nat.{ℕ}
use native.Mathlib.Omega.{arith}
use lib.Ieee.{Float, le, lt, eq, neg, of_bits}
use lib.Ieee.Scale.{finite}
use Rattle.numbers.specs.Floats.{zero64, one64, clamp, Inside}
use Rattle.numbers.specs.Outcome.{gave, unless}
use Rattle.numbers.proofs.Order.{no, le_left, leq_trans}
use Rattle.numbers.proofs.FiniteLaws.{inside_finite}
use Rattle.numbers.proofs.Given.{unless_given}
use Rattle.numbers.proofs.Chains.{clamp_inside}
use Rattle.angles.specs.Constants.{pi, widest}
use Rattle.angles.specs.Turns.{taken, cosine_at, sine_at, cosine_of, sine_of}
use Rattle.angles.specs.Arccosine.{in_unit, arccosine_at, arccosine_of}

-- an answer behind a test that is clamped lies inside
clamped_answer : (t : Bool) (low high z y : Float) → le low high ≡ true → unless t 9 (gave (clamp low high z)) ≡ gave y → Inside low high y
clamped_answer true low high z y h e = let k : clamp low high z ≡ y = cc in rw (← k) (clamp_inside low high z h)
clamped_answer false low high z y h e = absurd (let k : ◌≡◌ {A = ℕ} 0 1 = cc in omega arith)

unit_order : le (neg one64) one64 ≡ true
unfolding le lt eq neg of_bits
unit_order = refl

pi_order : le zero64 pi ≡ true
unfolding le lt eq of_bits
pi_order = refl

pi-taken : le pi widest ≡ true
unfolding le lt eq of_bits
pi-taken = refl

pub cosine_range : (x y : Float) → cosine_of x ≡ gave y → Inside (neg one64) one64 y
unfolding cosine_of
cosine_range x y e = clamped_answer (taken x) (neg one64) one64 (cosine_at x) y unit_order e

least_finite : finite (neg one64) ≡ true
unfolding neg of_bits
least_finite = refl

most_finite : finite one64 ≡ true
unfolding of_bits
most_finite = refl

pub cosine_finite : (x y : Float) → cosine_of x ≡ gave y → finite y ≡ true
cosine_finite x y e = inside_finite (neg one64) one64 y least_finite most_finite (cosine_range x y e)

pub sine_range : (x y : Float) → sine_of x ≡ gave y → Inside (neg one64) one64 y
unfolding sine_of
sine_range x y e = clamped_answer (taken x) (neg one64) one64 (sine_at x) y unit_order e

pub arccosine_range : (x y : Float) → arccosine_of x ≡ gave y → Inside zero64 pi y
unfolding arccosine_of
arccosine_range x y e = clamped_answer (in_unit x) zero64 pi (arccosine_at x) y pi_order e

pub arccosine_taken : (x y : Float) → arccosine_of x ≡ gave y → taken y ≡ true
unfolding taken
arccosine_taken x y e = let i = arccosine_range x y e in rw i.least (leq_trans y pi widest i.most pi-taken)

zero_finite : finite zero64 ≡ true
unfolding of_bits
zero_finite = refl

pi_finite : finite pi ≡ true
unfolding of_bits
pi_finite = refl

pub arccosine_finite : (x y : Float) → arccosine_of x ≡ gave y → finite y ≡ true
arccosine_finite x y e = inside_finite zero64 pi y zero_finite pi_finite (arccosine_range x y e)

both : (a b : Bool) → cond a b false ≡ true → (a ≡ true) × (b ≡ true)
both true b e = (refl, e)
both false b e = no e

pub arccosine_domain : (x y : Float) → arccosine_of x ≡ gave y → Inside (neg one64) one64 x
unfolding arccosine_of in_unit
arccosine_domain x y e =
    let t = both (le (neg one64) x) (le x one64) (unless_given (in_unit x) 9 (gave (clamp zero64 pi (arccosine_at x))) e).test in
    record { number = le_left x one64 t.1; least = t.0; most = t.1 }
