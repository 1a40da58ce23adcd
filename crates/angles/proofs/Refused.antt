-- The angle functions refuse with 9 alone. Assumes nothing.
use mathlib.Core.Path.{refl}
use lib.Ieee.{Float, neg}
use Rattle.numbers.specs.Floats.{zero64, one64, clamp}
use Rattle.numbers.specs.Outcome.{gave}
use Rattle.numbers.proofs.Refusing.{Refuses, Only, refuses_gave, refuses_unless}
use Rattle.angles.specs.Constants.{pi}
use Rattle.angles.specs.Turns.{taken, cosine_at, sine_at, cosine_of, sine_of}
use Rattle.angles.specs.Arccosine.{in_unit, arccosine_at, arccosine_of}

pub cosine_refuses : (x : Float) → Refuses (Only 9) (cosine_of x)
unfolding cosine_of
cosine_refuses x = refuses_unless (taken x) 9 (gave (clamp (neg one64) one64 (cosine_at x))) (λ t. refl) (λ t. refuses_gave (clamp (neg one64) one64 (cosine_at x)))

pub sine_refuses : (x : Float) → Refuses (Only 9) (sine_of x)
unfolding sine_of
sine_refuses x = refuses_unless (taken x) 9 (gave (clamp (neg one64) one64 (sine_at x))) (λ t. refl) (λ t. refuses_gave (clamp (neg one64) one64 (sine_at x)))

pub arccosine_refuses : (x : Float) → Refuses (Only 9) (arccosine_of x)
unfolding arccosine_of
arccosine_refuses x = refuses_unless (in_unit x) 9 (gave (clamp zero64 pi (arccosine_at x))) (λ t. refl) (λ t. refuses_gave (clamp zero64 pi (arccosine_at x)))
