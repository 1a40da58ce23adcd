-- The exact values that document 01 asks for, cos 0 = 1, sin 0 = 0 and acos 1 = 0, at -0.0 as at 0.0; and two more that the
-- exchange meets at the ends of a band, cos PI = -1 and acos -1 = PI. Each is computed. Assumes nothing.
use mathlib.Core.Path.{◌≡◌, refl}
use mathlib.Core.Bool.{true}
use mathlib.Core.Logic.{◌⊎◌, inl, inr}
use lib.Dec.{T}
use lib.Ieee.{Float, binary64, of_bits, neg, add, sub, mul, div, lt, le, eq, fits}
use Rattle.numbers.specs.Floats.{zero64, one64, is_zero}
use Rattle.numbers.specs.Outcome.{gave}
use Rattle.numbers.proofs.Zero.{+0, -0}
use Rattle.numbers.proofs.Magnitudes.{zero_values}
use Rattle.angles.specs.Constants.{pi}
use Rattle.angles.specs.Series.{sine_part, cosine_part}
use Rattle.angles.specs.Turns.{taken, cosine_at, sine_at, cosine_of, sine_of}
use Rattle.angles.specs.Root.{raise, lift, settle, heron, root_in, root_of}
use Rattle.angles.specs.Arccosine.{arcsine_part, arcsine, far_at, in_unit, arccosine_at, arccosine_of}

cosine_plus : cosine_of +0 ≡ gave one64
unfolding cosine_of taken cosine_at cosine_part of_bits neg add sub mul lt le eq
cosine_plus = refl

cosine_minus : cosine_of -0 ≡ gave one64
unfolding cosine_of taken cosine_at cosine_part of_bits neg add sub mul lt le eq
cosine_minus = refl

sine_plus : sine_of +0 ≡ gave zero64
unfolding sine_of taken sine_at sine_part of_bits neg add sub mul lt le eq
sine_plus = refl

sine_minus : sine_of -0 ≡ gave zero64
unfolding sine_of taken sine_at sine_part of_bits neg add sub mul lt le eq
sine_minus = refl

pub cosine_zero : (x : Float) → T (fits binary64 x) → is_zero x ≡ true → cosine_of x ≡ gave one64
cosine_zero x f z = go (zero_values binary64 x f z)
  where
    go : (x ≡ +0) ⊎ (x ≡ -0) → cosine_of x ≡ gave one64
    go (inl e) = rw e cosine_plus
    go (inr e) = rw e cosine_minus

pub sine_zero : (x : Float) → T (fits binary64 x) → is_zero x ≡ true → sine_of x ≡ gave zero64
sine_zero x f z = go (zero_values binary64 x f z)
  where
    go : (x ≡ +0) ⊎ (x ≡ -0) → sine_of x ≡ gave zero64
    go (inl e) = rw e sine_plus
    go (inr e) = rw e sine_minus

pub arccosine_one : arccosine_of one64 ≡ gave zero64
unfolding arccosine_of in_unit arccosine_at far_at arcsine arcsine_part root_of root_in heron settle lift raise of_bits neg add sub mul div lt le eq
arccosine_one = refl

pub cosine_pi : cosine_of pi ≡ gave (neg one64)
unfolding cosine_of taken cosine_at cosine_part of_bits neg add sub mul lt le eq
cosine_pi = refl

pub arccosine_minus_one : arccosine_of (neg one64) ≡ gave pi
unfolding arccosine_of in_unit arccosine_at far_at arcsine arcsine_part root_of root_in heron settle lift raise of_bits neg add sub mul div lt le eq
arccosine_minus_one = refl
