-- A stable sort: each entry goes before the first that it is below, so equal ones stay in their order. (The Rust's sort is
-- unstable.) The candidates are sorted by x, and as words: so a word that is a NaN's pattern is moved as it is.
use Rattle.std.specs.Prelude.{ℕ, ◌+◌, ◌/◌, ◌<◌, List, [], ◌∷◌, ◌++◌, ◌≡◌, false, cond, length, get_or, take, drop, Float}
use Rattle.std.specs.Float.Ieee.{lt, eq}
use Rattle.numbers.specs.Words.{of_word}
use Rattle.pruning.specs.declared.candidates.Candidate.{Candidate}
use Rattle.pruning.specs.declared.candidates.Raw.{Raw}
use Rattle.pruning.specs.Candidates.{raws, leftover, words_of, zeros}
use Rattle.pruning.specs.Prune.{emit}

-- sorted by the key
module _ {A : Type 0} (key : A → Float) where
  -- c before the first that it is below
  unfoldable pub insert : A → List A → List A
  insert c [] = c ∷ []
  insert c (y ∷ l) = cond (lt (key c) (key y)) (c ∷ y ∷ l) (y ∷ insert c l)

  -- the entries one after another put into s
  unfoldable pub onto : List A → List A → List A
  onto s [] = s
  onto s (c ∷ l) = onto (insert c s) l

  abbrev pub sorted : List A → List A
  sorted l = onto [] l

  -- what is said of it: no entry is below an earlier one
  unfoldable pub NoneBelow : Float → List A → Type 0
  NoneBelow v [] = Unit {0}
  NoneBelow v (y ∷ l) = (lt (key y) v ≡ false) × NoneBelow v l

  unfoldable pub Ordered : List A → Type 0
  Ordered [] = Unit {0}
  Ordered (x ∷ l) = NoneBelow (key x) l × Ordered l

  -- the entries whose key is v, in their order
  unfoldable pub those : Float → List A → List A
  those v [] = []
  those v (x ∷ l) = emit (eq (key x) v) x (those v l)

abbrev pub by_x : Candidate → Float
by_x c = c.x

abbrev pub by_word : Raw → Float
by_word r = of_word r.x

-- the words with the first n candidates sorted, or all where there are fewer
unfoldable pub sorted_words : List ℕ → ℕ → List ℕ
sorted_words w n = words_of (sorted by_word (take n (raws w)) ++ drop n (raws w)) (leftover w)

-- of the words the first i candidates are in order, and the next goes among them
abbrev pub inserted_words : List ℕ → ℕ → List ℕ
inserted_words w i = words_of (insert by_word (get_or (raws w) i zeros) (take i (raws w)) ++ drop (i + 1) (raws w)) (leftover w)

pub record Insertable (w : List ℕ) (i : ℕ) : Type 0 where
  pub inside : i < length w / 2
  pub ordered : Ordered by_word (take i (raws w))
