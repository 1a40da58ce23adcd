-- Lists of the right lengths are refused with 9 alone. Assumes nothing.
use Prim.Native.Nat.{ℕ, ◌≤◌}
use mathlib.Core.Path.{◌≡◌, refl}
use mathlib.Core.Bool.{◌&&◌}
use mathlib.Core.List.{List}
use native.Mathlib.Omega.{arith}
use borrow.Author.Tests.{le-leb, eq-eqb}
use lib.ListN.{length}
use lib.Ieee.{Float}
use lib.Ieee.Scale.{finite}
use Rattle.numbers.specs.Floats.{all_finite}
use Rattle.numbers.specs.Outcome.{needed_of, needed_list_of}
use Rattle.numbers.proofs.Refusing.{Refuses, Only, refuses_unless, refuses_needed, refuses_needed_list}
use Rattle.barycentric.specs.Limits.{most_points, three_finite}
use Rattle.barycentric.specs.Weights.{weights_of, weights_for}
use Rattle.barycentric.specs.Delta.{delta_of, delta_for}
use Rattle.barycentric.specs.Abscissas.{abscissas_of, abscissas_for}
use Rattle.barycentric.specs.Response.{responses_of, responses_for}
use Rattle.barycentric.proofs.Lengths.{weights-length, abscissas_length, responses_length}

pub weights_refuse : (x : List Float) (room : ℕ) → 2 ≤ length x → length x ≤ most_points → length x ≤ room → Refuses (Only 9) (weights_for x room)
unfolding weights_for
weights_refuse x room a b h =
    rw (le-leb 2 (length x) a, le-leb (length x) most_points b, le-leb (length x) room h)
    (refuses_unless (all_finite x) 9 (needed_list_of (weights_of x) room) (λ t. refl) (λ t. refuses_needed_list (weights_of x) room (omega (arith, weights-length x))))

pub delta_refuses : (w d v : List Float) → 1 ≤ length w → length w ≤ most_points → length d ≡ length w → length v ≡ length w → Refuses (Only 9) (delta_for w d v)
unfolding delta_for
delta_refuses w d v a b p q =
    rw (le-leb 1 (length w) a, le-leb (length w) most_points b, eq-eqb (length d) (length w) p, eq-eqb (length v) (length w) q)
    (refuses_unless (three_finite w d v) 9 (needed_of (delta_of w d v)) (λ t. refl) (λ t. refuses_needed (delta_of w d v)))

pub abscissas_refuse :
    (delta : Float) (d v : List Float) (room : ℕ) → 1 ≤ length d → length d ≤ most_points → length v ≡ length d → length d ≤ room → Refuses (Only 9) (abscissas_for delta d v room)
unfolding abscissas_for
abscissas_refuse delta d v room a b p h =
    rw (le-leb 1 (length d) a, le-leb (length d) most_points b, eq-eqb (length v) (length d) p, le-leb (length d) room h)
    (refuses_unless (finite delta && all_finite d && all_finite v) 9 (needed_list_of (abscissas_of delta d v) room) (λ t. refl)
    (λ t. refuses_needed_list (abscissas_of delta d v) room (omega (arith, abscissas_length delta d v))))

pub responses_refuse :
    (places x w y : List Float) (room : ℕ) → 1 ≤ length places → length places ≤ most_points → length places ≤ room
    → 1 ≤ length x → length x ≤ most_points → length w ≡ length x → length y ≡ length x → Refuses (Only 9) (responses_for places x w y room)
unfolding responses_for
responses_refuse places x w y room a b h p q k l =
    rw (le-leb 1 (length places) a, le-leb (length places) most_points b, le-leb (length places) room h, le-leb 1 (length x) p, le-leb (length x) most_points q, eq-eqb (length w) (length x) k, eq-eqb (length y) (length x) l)
    (refuses_unless (all_finite places && three_finite x w y) 9 (needed_list_of (responses_of places x w y) room) (λ t. refl)
    (λ t. refuses_needed_list (responses_of places x w y) room (omega (arith, responses_length places x w y))))
