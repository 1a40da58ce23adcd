-- Stored cases: words, whole numbers and lists of numbers in a text.
use Rattle.std.specs.Prelude.{ℕ, zero, suc, ◌+◌, ◌≡◌, Bool, true, false, cond, ◌&&◌, List, [], ◌∷◌, Option, Some, None, Result, Err, eqb, leb, ltb, Float, length, get_or, take, set}
use Rattle.std.specs.Option.{ok_or, option_and_then, option_map, option_map_or, unwrap_or}
use Rattle.std.specs.Float.{nan}
use Rattle.std.specs.Float.Ieee.Scale.{finite}
use Rattle.numbers.specs.Floats.{all_finite}
use Rattle.numbers.specs.Words.{of_word, to_word}
use Rattle.text.specs.Words.{next_of}
use Rattle.text.specs.Parts.{part_of, same}
use Rattle.text.specs.Numerals.{hex_of, decimal_of}
use Rattle.text.specs.declared.Word.{Word}
use Rattle.cases.specs.declared.Span.{Span}

abbrev pub span : ℕ → ℕ → Span
span count at = record { count = count; at = at }

-- none, and no word passed
abbrev pub nothing : ℕ → Span
nothing at = span 0 at

-- the end of the next word
unfoldable pub past_of : List ℕ → ℕ → ℕ
past_of s at = option_map_or (λ w. w.to) (next_of s at) at

-- a whole number, as the count
unfoldable pub whole_at : List ℕ → ℕ → Option Span
whole_at s at = option_and_then (λ (w : Word). option_map (λ v. span v w.to) (decimal_of s w.from w.to)) (next_of s at)

-- a whole number, or nothing
abbrev pub count_at : List ℕ → ℕ → Span
count_at s at = unwrap_or (whole_at s at) (nothing at)

-- the number whose bits are 16 digits; a NaN for a NaN's and for what is no number
unfoldable pub number_in : List ℕ → ℕ → ℕ → Float
number_in s from to = option_map_or (λ w. cond (eqb (to_word (of_word w)) w) (of_word w) nan) (hex_of s from to) nan

-- what was read, and the list after it
pub record Reading (A : Type 0) : Type 0 where
  pub told : A
  pub list : List Float

abbrev pub reading : {A : Type 0} → A → List Float → Reading A
reading t w = record { told = t; list = w }

-- the last n of `count` numbers, from `from` on, into w at i, i + 1, ..; nothing where a word or room for it is missing, and then
-- what was written stays
unfoldable pub numbers_from : List ℕ → ℕ → ℕ → ℕ → ℕ → ℕ → List Float → Reading (Option Span)
numbers_from s at count zero i from w = reading (Some (span count from)) w
numbers_from s at count (suc n) i from w =
    let rest = option_map_or (λ (a : Word). numbers_from s at count n (i + 1) a.to (set w i (number_in s a.from a.to))) (next_of s from) (reading None w) in
    cond (ltb i (length w)) rest (reading None w)

abbrev pub numbers_at : List ℕ → ℕ → ℕ → List Float → Reading (Option Span)
numbers_at s at count w = numbers_from s at count count 0 at w

-- what was read, or else where it was to stand
abbrev pub standing : ℕ → Reading (Option Span) → Reading (Result Span ℕ)
standing at x = reading (ok_or x.told at) x.list

-- a keyword, how many, and the numbers
unfoldable pub list_at : List ℕ → ℕ → List Float → Reading (Result Span ℕ)
list_at s at w = option_map_or (λ n. standing n.at (numbers_at s n.at n.count w)) (whole_at s (past_of s at)) (reading (Err at) w)

-- The contract of a function that reads into a lent list, w' at exit.
pub record ReadInto {A : Type 0} (x : Reading A) (r : A) (w' : List Float) : Type 0 where
  pub is : r ≡ x.told
  pub out : w' ≡ x.list

-- finite numbers of the same bits
abbrev pub same_number : Float → Float → Bool
same_number a b = finite a && finite b && eqb (to_word a) (to_word b)

-- place i of both lists is there, and holds the same bits
abbrev pub same_bits : List Float → List Float → ℕ → Bool
same_bits a b i = ltb i (length a) && ltb i (length b) && same_number (get_or a i nan) (get_or b i nan)

-- the first n are there and finite
abbrev pub finite_front : List Float → ℕ → Bool
finite_front a n = cond (leb n (length a)) (all_finite (take n a)) false

-- "leaf"
abbrev pub leaf_word : List ℕ
leaf_word = 108 ∷ 101 ∷ 97 ∷ 102 ∷ []

-- the next word is the name
unfoldable pub word_is : List ℕ → ℕ → List ℕ → Bool
word_is s at name = option_map_or (λ w. same (part_of s w.from w.to) name) (next_of s at) false

-- the word is `leaf`, and the next one is the name
unfoldable pub case_of : List ℕ → ℕ → ℕ → List ℕ → Bool
case_of s from to name =
    cond (same (part_of s from to) leaf_word) (word_is s to name) false
