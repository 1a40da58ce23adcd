-- Plain decimals: a sign, digits and a point.
use Rattle.std.specs.Prelude.{ℕ, ◌+◌, ◌-◌, ◌*◌, Bool, true, false, cond, List, [], ◌∷◌, Option, Some, None, eqb, ltb, length, get_or, drop}
use Rattle.std.specs.Option.{option_and_then}
use Rattle.text.specs.Parts.{part_of}
use Rattle.text.specs.declared.fraction.Fraction.{Fraction}
use Rattle.text.specs.declared.fraction.Partly.{Partly}

abbrev pub partly : ℕ → ℕ → Bool → Option Partly
partly n scale pointed = Some (record { digits = n; scale = scale; pointed = pointed })

-- the digits n over the power of ten `scale`, with one byte more: a digit, or the point, once; neither grows beyond 9 digits
unfoldable pub with_byte : ℕ → ℕ → Bool → ℕ → Option Partly
with_byte n scale pointed b =
    cond (eqb b 46) (cond pointed None (partly n scale true))
    (cond (ltb b 48) None
    (cond (ltb 57 b) None
    (cond (ltb 99999999 n) None
    (cond (ltb 99999999 scale) None
    (cond pointed (partly (n * 10 + (b - 48)) (scale * 10) true) (partly (n * 10 + (b - 48)) scale false))))))

-- n over `scale`, and the bytes that follow
unfoldable pub fraction_from : Bool → ℕ → ℕ → Bool → List ℕ → Option Fraction
fraction_from minus n scale pointed [] = Some (record { minus = minus; digits = n; scale = scale })
fraction_from minus n scale pointed (b ∷ s) = option_and_then (λ p. fraction_from minus p.digits p.scale p.pointed s) (with_byte n scale pointed b)

-- the first byte is no point, and there is one
unfoldable pub unsigned_of : Bool → List ℕ → Option Fraction
unsigned_of minus s =
    cond (eqb (length s) 0) None (cond (eqb (get_or s 0 0) 46) None (fraction_from minus 0 1 false s))

-- a minus sign or none before it
unfoldable pub fraction_of : List ℕ → ℕ → ℕ → Option Fraction
fraction_of s from to =
    let p = part_of s from to in
    cond (eqb (length p) 0) None (cond (eqb (get_or p 0 0) 45) (unsigned_of true (drop 1 p)) (unsigned_of false p))
