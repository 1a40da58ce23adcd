-- Balancing follows the Rust, early return included (document 01): each of its two scaling loops makes at most 1,023 steps, and a
-- pass begun counts, one cut short by the early return too.
use Rattle.std.specs.Prelude.{ℕ, zero, suc, Option, Some, None, Bool, true, false, cond, not, ◌&&◌, ◌||◌, eqb, Float}
use Rattle.std.specs.Float.{binary64}
use Rattle.std.specs.Float.Ieee.{of_bits, lt, le, eq}
use Rattle.numbers.specs.Floats.{zero64, one64, magnitude_of, normal}
use Rattle.numbers.specs.Loops.{run}
use Rattle.numbers.specs.Operations.{◌⊕◌, ◌⊗◌, ◌⊘◌}
use Rattle.numbers.specs.Outcome.{Outcome, refused, gave}
use Rattle.colleague.specs.declared.balance.Scale.{Scale}
use Rattle.colleague.specs.Matrix.{Matrix, at, put}
use Rattle.colleague.specs.Built.{half}

abbrev pub two : Float
two = of_bits binary64 0x4000_0000_0000_0000

abbrev pub four : Float
four = of_bits binary64 0x4010_0000_0000_0000

-- 0.95
abbrev pub gamma : Float
gamma = of_bits binary64 0x3fee_6666_6666_6666

-- magnitudes off the diagonal, summed from 0 in index order
abbrev pub row_norm : Matrix → ℕ → ℕ → Float
row_norm a n j = run (λ k t. cond (eqb k j) t (t ⊕ magnitude_of (at a j k))) n 0 zero64

abbrev pub column_norm : Matrix → ℕ → ℕ → Float
column_norm a n j = run (λ k t. cond (eqb k j) t (t ⊕ magnitude_of (at a k j))) n 0 zero64

-- up while the column norm is normal and at most h, down while it is normal and above h; at most k steps
unfoldable pub raised : ℕ → Float → Scale → Scale
raised zero h s = s
raised (suc k) h s =
    let r = raised k h (record { factor = s.factor ⊗ two; column = s.column ⊗ four }) in
    cond (normal s.column && le s.column h) r s

unfoldable pub lowered : ℕ → Float → Scale → Scale
lowered zero h s = s
lowered (suc k) h s =
    let r = lowered k h (record { factor = s.factor ⊘ two; column = s.column ⊘ four }) in
    cond (normal s.column && lt h s.column) r s

-- the same two as one: steps on, at most k, while there is a next scale
abbrev pub step_on : Option Scale → Scale → (Scale → Scale) → Scale
step_on None s f = s
step_on (Some t) s f = f t

unfoldable pub steps : (Scale → Option Scale) → ℕ → Scale → Scale
steps next zero s = s
steps next (suc k) s = step_on (next s) s (steps next k)

-- of row norm r and column norm c
abbrev pub scale_of : Float → Float → Scale
scale_of r c = lowered 1023 (r ⊗ two) (raised 1023 (r ⊗ half) (record { factor = one64; column = c }))

-- whether a row is scaled; balancing ends where its norm is no normal number
abbrev pub step_for : Float → Float → Scale → Option Bool
step_for r c s =
    cond (eq r zero64 || eq c zero64) (Some false)
    (cond (not (normal s.column)) None (cond (lt (r ⊕ s.column) (gamma ⊗ (r ⊕ c) ⊗ s.factor)) (Some true) (Some false)))

abbrev pub step_of : Matrix → ℕ → ℕ → Option Bool
step_of a n j = step_for (row_norm a n j) (column_norm a n j) (scale_of (row_norm a n j) (column_norm a n j))

-- row j times 1 / f and column j times f, off the diagonal
abbrev pub scale_at : Float → ℕ → ℕ → Matrix → Matrix
scale_at f j k a = let b = put a j k (at a j k ⊗ (one64 ⊘ f)) in cond (eqb k j) a (put b k j (at b k j ⊗ f))

abbrev pub scaled_by : Float → Matrix → ℕ → ℕ → Matrix
scaled_by f a n j = run (scale_at f j) n 0 a

abbrev pub moved_by : Option Bool → Float → Matrix → ℕ → ℕ → Matrix
moved_by (Some false) f a n j = a
moved_by (Some true) f a n j = scaled_by f a n j
moved_by None f a n j = a

abbrev pub stepped : Matrix → ℕ → ℕ → Matrix
stepped a n j = moved_by (step_of a n j) (scale_of (row_norm a n j) (column_norm a n j)).factor a n j

-- a pass over the rows from j on, k of them; once stopped, nothing more is done
pub record Pass : Type 0 where
  pub matrix : Matrix
  pub moved : Bool
  pub stopped : Bool

abbrev pub pass_by : Option Bool → Bool → Matrix → (Bool → Pass) → Pass
pass_by (Some false) m b k = k m
pass_by (Some true) m b k = k true
pass_by None m b k = record { matrix = b; moved = m; stopped = true }

unfoldable pub pass_from : ℕ → ℕ → ℕ → Matrix → Bool → Pass
pass_from zero n j a m = record { matrix = a; moved = m; stopped = false }
pass_from (suc k) n j a m = pass_by (step_of a n j) m (stepped a n j) (pass_from k n (suc j) (stepped a n j))

abbrev pub pass_of : Matrix → ℕ → Pass
pass_of a n = pass_from n n 0 a false

-- whether a row was moved, of a pass that was not stopped
abbrev pub moved_in : Pass → Option Bool
moved_in p = cond p.stopped None (Some p.moved)

pub record Balanced : Type 0 where
  pub matrix : Matrix
  pub passes : ℕ

-- at most k passes more, after `made`; refusal 11 where one more than 64 is needed
unfoldable pub balanced_from : ℕ → ℕ → ℕ → Matrix → Outcome Balanced
balanced_from zero made n a = refused 11
balanced_from (suc k) made n a =
    let p = pass_of a n in
    cond (p.moved && not p.stopped) (balanced_from k (suc made) n p.matrix) (gave (record { matrix = p.matrix; passes = suc made }))

abbrev pub balanced_of : Matrix → ℕ → Outcome Balanced
balanced_of a n = balanced_from 64 0 n a

-- what balancing gives, of its answer and the matrix a that it leaves; on a refusal the matrix is not kept
abbrev pub passes_of : Option ℕ → Matrix → Outcome Balanced
passes_of (Some p) a = gave (record { matrix = a; passes = p })
passes_of None a = refused 11
