-- How flat the errors of the kept candidates are: (largest - smallest) / largest of their magnitudes. 9 where the largest is zero.
use Rattle.std.specs.Prelude.{ℕ, ◌-◌, not, cond, List, length, get_or, Float}
use Rattle.std.specs.Float.Ieee.{lt, eq}
use Rattle.numbers.specs.Floats.{zero64, magnitude_of, lesser}
use Rattle.numbers.specs.Loops.{run}
use Rattle.numbers.specs.Operations.{◌⊖◌, ◌⊘◌}
use Rattle.numbers.specs.Outcome.{Outcome, unless, needed_of}
use Rattle.pruning.specs.declared.candidates.Candidate.{Candidate}
use Rattle.pruning.specs.Candidates.{none}
use Rattle.exchange.specs.declared.flatness.Spread.{Spread}

abbrev pub size_at : List Candidate → ℕ → Float
size_at l i = magnitude_of (get_or l i none).error

abbrev pub spread : Float → Float → Spread
spread most least = record { most = most; least = least }

-- the largest and the smallest so far, after candidate i
abbrev pub widen : List Candidate → ℕ → Spread → Spread
widen l i s = spread (cond (lt s.most (size_at l i)) (size_at l i) s.most) (lesser s.least (size_at l i))

unfoldable pub spread_of : List Candidate → Spread
spread_of l = run (widen l) (length l - 1) 1 (spread (size_at l 0) (size_at l 0))

abbrev pub flatness_by : Spread → Outcome Float
flatness_by s = unless (not (eq s.most zero64)) 9 (needed_of ((s.most ⊖ s.least) ⊘ s.most))

unfoldable pub flatness_of : List Candidate → Outcome Float
flatness_of l = flatness_by (spread_of l)
