-- The stored list: what is read from a place on, where a line ends and which one it is.
use Rattle.std.specs.Prelude.{ℕ, ◌+◌, cond, List, [], ◌∷◌, Option, Some, None, Result, Ok, Err, length, drop, ◌==◌, nat_eq, nat_lt, slice_index, Float}
use Rattle.std.specs.Option.{option_and_then, option_map, option_map_or}
use Rattle.numbers.specs.Loops.{run}
use Rattle.numbers.specs.Words.{of_word, to_word}
use Rattle.text.specs.declared.Word.{Word}
use Rattle.text.specs.Parts.{part_of, same}
use Rattle.text.specs.Words.{before, next_of}
use Rattle.text.specs.Numerals.{hex_of}
use Rattle.angle_values.specs.declared.list.Function.{Function}
use Rattle.angle_values.specs.declared.list.Function.TheVariants as function
use Rattle.angle_values.specs.declared.list.Asked.{Asked}
use Rattle.angle_values.specs.declared.list.Malformed.{Malformed}

-- the number whose bits 16 digits spell; a NaN's spell none
abbrev pub number_in : Option ℕ → Option Float
number_in o = option_and_then (λ w. cond (to_word (of_word w) == w) (Some (of_word w)) None) o

unfoldable pub number_of : List ℕ → ℕ → ℕ → Option Float
number_of s from to = number_in (hex_of s from to)

-- the bytes of `cosine`, `sine` and `arccosine`
abbrev pub sine_name : List ℕ
sine_name = 115 ∷ 105 ∷ 110 ∷ 101 ∷ []

abbrev pub cosine_name : List ℕ
cosine_name = 99 ∷ 111 ∷ sine_name

abbrev pub arccosine_name : List ℕ
arccosine_name = 97 ∷ 114 ∷ 99 ∷ cosine_name

unfoldable pub name_of : List ℕ → ℕ → ℕ → Option Function
name_of s from to =
    cond (same (part_of s from to) cosine_name) (Some function.Cosine)
    (cond (same (part_of s from to) sine_name) (Some function.Sine)
    (cond (same (part_of s from to) arccosine_name) (Some function.Arccosine) None))

-- a name, from one place to before another, and a place and a value after it
unfoldable pub asked_of : List ℕ → ℕ → ℕ → Option Asked
asked_of s from to =
    option_and_then (λ f.
    option_and_then (λ (v : Word).
    option_and_then (λ x.
    option_and_then (λ (w : Word).
    option_map (λ y. record { case = record { function = f; place = x; value = y }; from = from; to = w.to })
    (number_of s w.from w.to)) (next_of s v.to)) (number_of s v.from v.to)) (next_of s to)) (name_of s from to)

-- whatever else begins with a word is malformed, and named by where it begins
abbrev pub asked_or_malformed : Option Asked → ℕ → Result Asked Malformed
asked_or_malformed o from = option_map_or Ok o (Err (record { from = from }))

unfoldable pub line_of : List ℕ → ℕ → Option (Result Asked Malformed)
line_of s at = option_map (λ (w : Word). asked_or_malformed (asked_of s w.from w.to) w.from) (next_of s at)

-- the first newline from a place on, or the end
unfoldable pub line_end : List ℕ → ℕ → ℕ
line_end s at = at + before (λ (u : Unit {0}) b. nat_eq b 10) (λ u b. u) tt (drop at s)

-- one more than the newlines of the first n bytes
unfoldable pub newlines : List ℕ → ℕ → ℕ
newlines s n = run (λ i k. cond (slice_index s i == 10) (k + 1) k) n 0 1

-- the line of a place, the first being 1
unfoldable pub line_number : List ℕ → ℕ → ℕ
line_number s at = cond (nat_lt at (length s)) (newlines s at) (newlines s (length s))
