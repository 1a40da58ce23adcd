-- The words of a text: what lies between blanks. A `#` where a word would begin makes a remark, to the end of its line.
use Rattle.std.specs.Prelude.{ℕ, suc, ◌+◌, Bool, true, false, cond, not, List, [], ◌∷◌, Option, Some, None, eqb, ltb, length, drop}
use Rattle.text.specs.declared.Word.{Word}

-- space, newline, carriage return, tab
unfoldable pub blank : ℕ → Bool
blank b = cond (eqb b 32) true (cond (eqb b 10) true (cond (eqb b 13) true (eqb b 9)))

-- a word begins with byte b, outside a remark
unfoldable pub begins : Bool → ℕ → Bool
begins remark b = cond remark false (cond (blank b) false (not (eqb b 35)))

-- after a byte that begins no word: within a remark, which a `#` begins and a newline ends
unfoldable pub remarked : Bool → ℕ → Bool
remarked remark b = cond remark (not (eqb b 10)) (eqb b 35)

-- how many bytes lie before the first at which the test holds, or before the end; f takes a state from byte to byte
unfoldable pub before : {S : Type 0} → (S → ℕ → Bool) → (S → ℕ → S) → S → List ℕ → ℕ
before test f m [] = 0
before test f m (b ∷ s) = let n = before test f (f m b) s in cond (test m b) 0 (suc n)

-- what lies before the next word
abbrev pub lead : List ℕ → ℕ
lead s = before begins remarked false s

-- the bytes of the word that begins a text
abbrev pub word_length : List ℕ → ℕ
word_length s = before (λ (u : Unit {0}) b. blank b) (λ u b. u) tt s

-- a place, where the text goes on there
abbrev pub place_in : List ℕ → ℕ → Option ℕ
place_in s from = cond (ltb from (length s)) (Some from) None

-- where the next word begins
abbrev pub start_of : List ℕ → ℕ → Option ℕ
start_of s at = place_in s (at + lead (drop at s))

abbrev pub word_at : List ℕ → ℕ → Option Word
word_at s from = cond (ltb from (length s)) (Some (record { from = from; to = from + word_length (drop from s) })) None

unfoldable pub next_of : List ℕ → ℕ → Option Word
next_of s at = word_at s (at + lead (drop at s))
