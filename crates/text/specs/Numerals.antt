-- Numerals: the number that digits stand for, and which digits are taken.
use Rattle.std.specs.Prelude.{ℕ, ◌+◌, ◌-◌, ◌*◌, ◌≤◌, cond, List, [], ◌∷◌, Option, Some, None, eqb, ltb, leb, length}
use Rattle.std.specs.Option.{option_and_then}
use Rattle.text.specs.Parts.{part_of}

-- the value of the digits 0 to 9 and a to f; any other byte is no digit
unfoldable pub value_of : ℕ → Option ℕ
value_of b = cond (ltb b 48) None (cond (leb b 57) (Some (b - 48)) (cond (ltb b 97) None (cond (leb b 102) (Some (b - 87)) None)))

-- n followed by the digits of a text
unfoldable pub numeral : ℕ → ℕ → List ℕ → Option ℕ
numeral base n [] = Some n
numeral base n (b ∷ s) = option_and_then (λ v. cond (leb base v) None (numeral base (n * base + v) s)) (value_of b)

-- a numeral that a word of 64 bits holds
pub record Short (s : List ℕ) (base : ℕ) : Type 0 where
  pub length_most : length s ≤ 16
  pub base_most : base ≤ 16

-- exactly 16 digits
unfoldable pub hex_of : List ℕ → ℕ → ℕ → Option ℕ
hex_of s from to = let p = part_of s from to in cond (eqb (length p) 16) (numeral 16 0 p) None

-- 1 to 9 digits
unfoldable pub decimal_of : List ℕ → ℕ → ℕ → Option ℕ
decimal_of s from to =
    let p = part_of s from to in
    cond (eqb (length p) 0) None (cond (leb (length p) 9) (numeral 10 0 p) None)
