-- The residual of an s by s matrix at x (document 01, "Roots"): n(0) = x - a(0,0); v(0) = 1; v(j+1) = n(j) / a(j,j+1);
-- n(1) = x v(1) - a(1,0); for j >= 2, n(j) = (x v(j) - a(j,0)) - a(j,j-1) v(j-1). The residual is n(s-1).
use Rattle.std.specs.Prelude.{ℕ, ◌+◌, ◌-◌, cond, leb, Float}
use Rattle.numbers.specs.Floats.{one64}
use Rattle.numbers.specs.Loops.{run}
use Rattle.numbers.specs.Operations.{◌⊖◌, ◌⊗◌, ◌⊘◌}
use Rattle.colleague.specs.Matrix.{Matrix, at}
use Rattle.roots.specs.declared.residual.Turn.{Turn}

-- n(0) and v(0)
abbrev pub first : Matrix → Float → Turn
first a x = record { n = x ⊖ at a 0 0; v = one64 }

-- from n(j) and v(j) to those of j + 1, of w, which is n(j) over a(j,j+1), and of a(j+1,0), a(j+1,j) and v(j)
abbrev pub turn_on : ℕ → Float → Float → Float → Float → Float → Turn
turn_on j w first left x v =
    let m = x ⊗ w ⊖ first in
    record { n = cond (leb 1 j) (m ⊖ left ⊗ v) m; v = w }

-- of a(j,j+1), a(j+1,0) and a(j+1,j)
abbrev pub turn_by : ℕ → Float → Float → Float → Float → Turn → Turn
turn_by j right first left x t = turn_on j (t.n ⊘ right) first left x t.v

abbrev pub turn : Matrix → Float → ℕ → Turn → Turn
turn a x j t = turn_by j (at a j (j + 1)) (at a (j + 1) 0) (at a (j + 1) j) x t

unfoldable pub residual : Matrix → ℕ → Float → Float
residual a s x = (run (turn a x) (s - 1) 0 (first a x)).n
