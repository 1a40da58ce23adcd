-- Candidates in lent words, two words each: x and the error. The view of the words is a list of records.
use Rattle.std.specs.Prelude.{ℕ, ◌*◌, List, [], ◌∷◌, map, ◌≡◌, length, take, drop, set}
use Rattle.numbers.specs.Floats.{zero64}
use Rattle.numbers.specs.Words.{of_word, to_word}
use Rattle.pruning.specs.declared.candidates.Candidate.{Candidate}
use Rattle.pruning.specs.declared.candidates.Raw.{Raw}

-- a candidate read from its two words, and the words of one
abbrev pub candidate : Raw → Candidate
candidate r = record { x = of_word r.x; error = of_word r.error }

abbrev pub raw_of : Candidate → Raw
raw_of c = record { x = to_word c.x; error = to_word c.error }

-- the words two by two, and the word left over where their number is odd
unfoldable pub raws : List ℕ → List Raw
raws [] = []
raws (a ∷ []) = []
raws (a ∷ b ∷ w) = record { x = a; error = b } ∷ raws w

unfoldable pub leftover : List ℕ → List ℕ
leftover [] = []
leftover (a ∷ []) = a ∷ []
leftover (a ∷ b ∷ w) = leftover w

-- the words of a list of pairs, and then those of t
unfoldable pub words_of : List Raw → List ℕ → List ℕ
words_of [] t = t
words_of (r ∷ l) t = r.x ∷ r.error ∷ words_of l t

-- what stands past the end
abbrev pub zeros : Raw
zeros = record { x = 0; error = 0 }

abbrev pub none : Candidate
none = record { x = zero64; error = zero64 }

-- every candidate of the words, as many as there are pairs of words
unfoldable pub all : List ℕ → List Candidate
all w = map candidate (raws w)

-- the first n of them
abbrev pub view : List ℕ → ℕ → List Candidate
view w n = take n (all w)

-- the words with the pair r, or the candidate c, at i; as they were where they have no such place
abbrev pub put_raw : List ℕ → ℕ → Raw → List ℕ
put_raw w i r = words_of (set (raws w) i r) (leftover w)

unfoldable pub put : List ℕ → ℕ → Candidate → List ℕ
put w i c = put_raw w i (raw_of c)

-- c as it is read after it was written: c itself where it holds no NaN
abbrev pub written : Candidate → Candidate
written c = candidate (raw_of c)

-- w' has the length of w, and its words from the n-th candidate on
pub record Framed (n : ℕ) (w w' : List ℕ) : Type 0 where
  pub long : length w' ≡ length w
  pub rest : drop (2 * n) w' ≡ drop (2 * n) w
