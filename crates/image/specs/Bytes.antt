-- Whole numbers in bytes, little-endian.
use Rattle.std.specs.Prelude.{ℕ, zero, suc, ◌+◌, ◌*◌, ◌/◌, ◌%◌, List, [], ◌∷◌, take, drop}

-- the k lowest bytes of n, lowest first
unfoldable pub bytes_of : ℕ → ℕ → List ℕ
bytes_of zero n = []
bytes_of (suc k) n = n % 256 ∷ bytes_of k (n / 256)

unfoldable pub number_of : List ℕ → ℕ
number_of [] = 0
number_of (b ∷ l) = b + 256 * number_of l

-- the number in the k bytes from i on
abbrev pub number_at : List ℕ → ℕ → ℕ → ℕ
number_at s i k = number_of (take k (drop i s))
