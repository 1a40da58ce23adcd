-- The nodes of a degree in range and the coefficients of a list of the right length are refused with 9 alone. Assumes nothing.
use Prim.Native.Nat.{ℕ, ◌+◌, ◌-◌, ◌<◌, ◌≤◌}
use mathlib.Core.Path.{refl}
use mathlib.Core.List.{List}
use native.Mathlib.Omega.{arith}
use borrow.Author.Tests.{lt-ltb, le-leb}
use lib.ListN.{length}
use lib.Ieee.{Float}
use Rattle.numbers.specs.Floats.{all_finite}
use Rattle.numbers.specs.Operations.{◌⊗◌, ◌⊘◌}
use Rattle.numbers.specs.Outcome.{gave, bind, gather, needed_list_of}
use Rattle.numbers.proofs.Given.{gather-length}
use Rattle.numbers.proofs.Refusing.{Refuses, Only, refuses_gave, refuses_unless, refuses_bind, refuses_gather, refuses_needed_list}
use Rattle.angles.specs.Constants.{two}
use Rattle.angles.specs.Turns.{cosine_of}
use Rattle.angles.proofs.Refused.{cosine_refuses}
use Rattle.chebyshev.specs.Angles.{whole, node_angle, coefficient_angle}
use Rattle.chebyshev.specs.Nodes.{nodes_for}
use Rattle.chebyshev.specs.Coefficients.{halve_ends, clenshaw, coefficient_at, coefficients_for}
use Rattle.chebyshev.proofs.CoefficientLaws.{halves_length}

pub nodes_refuse : (n room : ℕ) → n < room → 2 ≤ n → n ≤ 16 → Refuses (Only 9) (nodes_for n room)
unfolding nodes_for
nodes_refuse n room h a b =
    rw (lt-ltb n room h, le-leb 2 n a, le-leb n 16 b)
    (refuses_gather (λ j. cosine_of (node_angle n j)) (n + 1) 0 (λ j p q. cosine_refuses (node_angle n j)))

coefficient_refuses : (d : List Float) (j : ℕ) → Refuses (Only 9) (coefficient_at d j)
coefficient_refuses d j =
    let n = length d - 1 in
    refuses_bind (cosine_of (coefficient_angle n j)) (λ x. gave (clenshaw d x ⊗ (two ⊘ whole n))) (cosine_refuses (coefficient_angle n j))
    (λ x e. refuses_gave (clenshaw d x ⊗ (two ⊘ whole n)))

pub coefficients_refuse : (p : List Float) (room : ℕ) → 2 ≤ length p → length p ≤ 64 → length p ≤ room → Refuses (Only 9) (coefficients_for p room)
unfolding coefficients_for
coefficients_refuse p room a b h =
    let g = gather (coefficient_at (halve_ends p)) (length p) 0 in
    rw (le-leb 2 (length p) a, le-leb (length p) 64 b, le-leb (length p) room h)
    (refuses_unless (all_finite p) 9 (bind g (λ b. needed_list_of (halve_ends b) room)) (λ t. refl)
    (λ t. refuses_bind g (λ b. needed_list_of (halve_ends b) room)
    (refuses_gather (coefficient_at (halve_ends p)) (length p) 0 (λ j p' q. coefficient_refuses (halve_ends p) j))
    (λ b e. refuses_needed_list (halve_ends b) room
    (omega (arith, halves_length b, gather-length (coefficient_at (halve_ends p)) (length p) 0 b e)))))
