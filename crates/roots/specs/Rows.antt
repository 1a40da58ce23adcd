-- The residuals of many places side by side, as they are worked out: turn by turn, all places in each turn.
use Rattle.std.specs.Prelude.{ℕ, get_or, Float}
use mathlib.Core.List.{List, zip_with}
use Rattle.std.specs.Float.{nan}
use Rattle.numbers.specs.Loops.{tab}
use Rattle.roots.specs.declared.residual.Turn.{Turn}
use Rattle.roots.specs.Residual.{turn_on}

abbrev pub both : Float → Float → Turn
both n v = record { n = n; v = v }

abbrev pub no_turn : Turn
no_turn = both nan nan

-- the two running numbers of every place, from a list of each
abbrev pub turns : List Float → List Float → List Turn
turns n v = zip_with both n v

-- a turn at each of m places xs; q gives n over a(j,j+1)
abbrev pub turn_of : ℕ → (Float → Float) → Float → Float → List Float → ℕ → Turn → Turn
turn_of j q first left xs k t = turn_on j (q t.n) first left (get_or xs k nan) t.v

abbrev pub turned : ℕ → (Float → Float) → Float → Float → ℕ → List Float → List Turn → List Turn
turned j q first left m xs ts = tab (λ k. turn_of j q first left xs k (get_or ts k no_turn)) m 0
