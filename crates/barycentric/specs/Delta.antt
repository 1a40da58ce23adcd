-- delta = sum of w_k D(f_k) over sum of (-1)^k w_k / W(f_k), both sums from 0 in index order.
use Rattle.std.specs.Prelude.{ℕ, ◌%◌, cond, List, eqb, length, get_or, Float}
use Rattle.std.specs.Float.{nan}
use Rattle.numbers.specs.Floats.{zero64}
use Rattle.numbers.specs.Operations.{◌⊕◌, ◌⊖◌, ◌⊗◌, ◌⊘◌}
use Rattle.numbers.specs.Loops.{run}
use Rattle.numbers.specs.Outcome.{Outcome, unless, needed_of}
use Rattle.barycentric.specs.declared.Sums.{Sums}
use Rattle.barycentric.specs.Limits.{three_alike, three_finite}

abbrev pub no_sums : Sums
no_sums = record { numer = zero64; denom = zero64 }

abbrev pub quotient : Sums → Float
quotient s = s.numer ⊘ s.denom

-- point i's term of both sums: odd places are subtracted below
abbrev pub delta_step : List Float → List Float → List Float → ℕ → Sums → Sums
delta_step w d v i s =
    record {
      numer = s.numer ⊕ get_or w i nan ⊗ get_or d i nan;
      denom = let z = get_or w i nan ⊘ get_or v i nan in cond (eqb (i % 2) 0) (s.denom ⊕ z) (s.denom ⊖ z);
    }

unfoldable pub delta_sums : List Float → List Float → List Float → Sums
delta_sums w d v = run (delta_step w d v) (length w) 0 no_sums

abbrev pub delta_of : List Float → List Float → List Float → Float
delta_of w d v = quotient (delta_sums w d v)

unfoldable pub delta_for : List Float → List Float → List Float → Outcome Float
delta_for w d v = unless (three_alike (length w) (length d) (length v)) 15 (unless (three_finite w d v) 9 (needed_of (delta_of w d v)))
