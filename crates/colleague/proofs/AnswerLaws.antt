-- What the leaf's chain comes to, by the tests in the order of the code. Assumes nothing.
use Prim.Native.Nat.{ℕ, ◌-◌, ◌<◌, ◌≤◌}
use mathlib.Core.Path.{◌≡◌}
use mathlib.Core.Bool.{true, false}
use mathlib.Core.List.{List}
use native.Mathlib.Omega.{arith}
use borrow.Author.Tests.{le-leb, ne_eqb}
use lib.ListN.{length}
use lib.Ieee.{Float}
use Rattle.numbers.specs.Floats.{all_finite}
use Rattle.numbers.specs.Outcome.{refused, gave}
use Rattle.colleague.specs.Built.{without_zeros}
use Rattle.colleague.specs.Answer.{no_rows, balanced_for, colleague_for}

module _ (c : List Float) (a : 1 ≤ length c) (b : length c ≤ 16) where
  pub not_finite : all_finite c ≡ false → refused 9 ≡ colleague_for c
  unfolding colleague_for
  not_finite f = rw (le-leb 1 (length c) a, le-leb (length c) 16 b, f)

  module _ (f : all_finite c ≡ true) {n : ℕ} (e : n ≡ without_zeros c (length c)) where
    pub none_left : n ≡ 0 → refused 10 ≡ colleague_for c
    unfolding colleague_for
    none_left z = rw (le-leb 1 (length c) a, le-leb (length c) 16 b, f, ← e, z)

    pub one_left : n ≡ 1 → gave no_rows ≡ colleague_for c
    unfolding colleague_for
    one_left z = rw (le-leb 1 (length c) a, le-leb (length c) 16 b, f, ← e, z)

    pub more_left : 1 < n → balanced_for c (n - 1) ≡ colleague_for c
    unfolding colleague_for
    more_left z =
        let h : 1 ≤ n = omega arith in
        rw (le-leb 1 (length c) a, le-leb (length c) 16 b, f, ← e, le-leb 1 n h, ne_eqb n 1 (omega arith))
