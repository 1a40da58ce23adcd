-- The abscissas of the interpolation: y_k = D(f_k) - (-1)^k delta / W(f_k).
use Rattle.std.specs.Prelude.{ℕ, ◌%◌, ◌&&◌, cond, List, leb, eqb, length, get_or, Float}
use Rattle.std.specs.Float.{nan}
use Rattle.std.specs.Float.Ieee.Scale.{finite}
use Rattle.numbers.specs.Floats.{all_finite}
use Rattle.numbers.specs.Operations.{◌⊕◌, ◌⊖◌, ◌⊘◌}
use Rattle.numbers.specs.Loops.{tab}
use Rattle.numbers.specs.Outcome.{Outcome, unless, needed_list_of}
use Rattle.barycentric.specs.Limits.{alike}

abbrev pub abscissa : Float → List Float → List Float → ℕ → Float
abscissa delta d v k =
    let z = delta ⊘ get_or v k nan in cond (eqb (k % 2) 0) (get_or d k nan ⊖ z) (get_or d k nan ⊕ z)

unfoldable pub abscissas_of : Float → List Float → List Float → List Float
abscissas_of delta d v = tab (abscissa delta d v) (length d) 0

unfoldable pub abscissas_for : Float → List Float → List Float → ℕ → Outcome (List Float)
abscissas_for delta d v room =
    unless (alike (length d) (length v) && leb (length d) room) 15
    (unless (finite delta && all_finite d && all_finite v) 9 (needed_list_of (abscissas_of delta d v) room))
