-- What the leaf's chain comes to, by the tests in the order of the code. Assumes nothing.
use Rattle.std.specs.Prelude.{Result}
use Prim.Native.Nat.{ℕ}
use mathlib.Core.Path.{◌≡◌}
use mathlib.Core.Bool.{true, false}
use mathlib.Core.List.{List, []}
use borrow.Author.Tests.{le-leb}
use lib.Dec.{leb, eqb}
use lib.Ieee.{Float}
use Rattle.numbers.specs.Outcome.{Outcome, refused, gave}
use Rattle.numbers.specs.declared.Refusal.{Refusal}
use Rattle.numbers.specs.Refusals.{Wrote}
use Rattle.numbers.proofs.OutcomeLaws.{bind_next}
use Rattle.colleague.specs.declared.Colleague.{Colleague}
use Rattle.colleague.specs.Matrix.{Matrix, entries_finite}
use Rattle.roots.specs.Brackets.{low_ends}
use Rattle.colleague.proofs.Given.{Giving}
use Rattle.roots.specs.Answer.{rows_of, brackets_of, roots_for, derivative_roots}

-- what was written is the outcome under its other name
pub wrote_same : {A : Type 0} {o p : Outcome (List A)} {r : Result ℕ Refusal} {w w' : List A} → o ≡ p → Wrote o r w w' → Wrote p r w w'
wrote_same e f = rw e at f

module _ (m : Colleague) (room : ℕ) where
  module _ (p : leb m.size 15 ≡ true) where
    pub too_short : leb m.size room ≡ false → refused 15 ≡ roots_for m room
    unfolding roots_for
    too_short t = rw (p, t)

    module _ (q : leb m.size room ≡ true) (a : Matrix) (is : a ≡ rows_of m) where
      pub no_roots : entries_finite a ≡ true → eqb m.size 0 ≡ true → gave [] ≡ roots_for m room
      unfolding roots_for
      no_roots f z = rw (p, q, ← is, f, z)

      pub some_roots : entries_finite a ≡ true → eqb m.size 0 ≡ false → low_ends (brackets_of a m.size) ≡ roots_for m room
      unfolding roots_for
      some_roots f z = rw (p, q, ← is, f, z)

-- ---- the same of a derivative's coefficients, whose matrix is s rows in a
module _ {c : List Float} {s : ℕ} {a : Matrix} (w : Giving c s a) (room : ℕ) where
  fits : leb w.matrix.size 15 ≡ true
  fits = le-leb w.matrix.size 15 w.bounded.size

  finite_rows : entries_finite a ≡ true
  finite_rows = rw w.rows w.bounded.entries

  pub short_of : leb s room ≡ false → refused 15 ≡ derivative_roots c room
  short_of t = bind_next (λ m. roots_for m room) w.given (too_short w.matrix room fits (rw w.sized at t))

  pub none_of : leb s room ≡ true → eqb s 0 ≡ true → gave [] ≡ derivative_roots c room
  none_of t z =
      bind_next (λ m. roots_for m room) w.given
      (no_roots w.matrix room fits (rw w.sized at t) a w.rows finite_rows (rw w.sized at z))

  pub some_of : leb s room ≡ true → eqb s 0 ≡ false → low_ends (brackets_of a s) ≡ derivative_roots c room
  some_of t z =
      bind_next (λ m. roots_for m room) w.given
      (rw w.sized (some_roots w.matrix room fits (rw w.sized at t) a w.rows finite_rows (rw w.sized at z)))
