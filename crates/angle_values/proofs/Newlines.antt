-- Where a line ends, and which one it is. Assumes nothing.
use Rattle.std.proofs.Common.{ℕ, zero, suc, ◌+◌, ◌-◌, ◌<◌, ◌≤◌, ◌≡◌, refl, Bool, true, false, cond, not, List, ◌∷◌, Option, Some, None, min, sym, ◌∙◌, ap, ltb, eqb, ltb-false, lt-ltb, le-ltb, add-one, arith, length, get_or, take, drop}
use Rattle.std.specs.Option.{unwrap_or}
use Rattle.std.specs.List.{position, position_or_len, count_by}
use Rattle.std.proofs.lemmas.List.Sums.{prefix_len-le-length, sum_by-cons}
use native.Mathlib.Decide.{dec_lt}
use lib.ListN.{drop_of_length-le}
use lib.Seq.{drop-cons, take_all}
use mir.Val.{bool_byte}
use Rattle.text.proofs.Passing.{before-position}
use Rattle.text.specs.Words.{before}
use Rattle.numbers.specs.Loops.{run}
use Rattle.angle_values.specs.Lines.{line_end, newlines, line_number}

abbrev is_newline : ℕ → Bool
is_newline b = eqb b 10

place_or_end : (s : List ℕ) → position_or_len is_newline s ≡ unwrap_or (position is_newline s) (length s)
place_or_end s = go (ltb (position_or_len is_newline s) (length s)) refl
  where
    go : (t : Bool) → ltb (position_or_len is_newline s) (length s) ≡ t →
        position_or_len is_newline s ≡ unwrap_or (cond t (Some (position_or_len is_newline s)) None) (length s)
    go true p = refl
    go false p = let q = ltb-false _ _ p in let r = prefix_len-le-length (λ x. not (is_newline x)) s in omega arith

pub line_end_in : (s : List ℕ) (at : ℕ) → at + unwrap_or (position is_newline (drop at s)) (length (drop at s)) ≡ line_end s at
unfolding line_end
line_end_in s at = ap (λ x. at + x) (sym (before-position is_newline (drop at s) ∙ place_or_end (drop at s)))

pub line_end_past : (s : List ℕ) (at : ℕ) → length s ≤ at → at ≡ line_end s at
unfolding line_end before
line_end_past s at h = rw (drop_of_length-le s {i = at} h) (omega arith)

abbrev turn : List ℕ → ℕ → ℕ → ℕ
turn s i k = cond (eqb (get_or s i 0) 10) (k + 1) k

counted : (s : List ℕ) (n i k : ℕ) → i + n ≤ length s → run (turn s) n i k ≡ k + count_by is_newline (take n (drop i s))
unfolding run
counted s zero i k h = omega arith
counted s (suc n) i k h =
    let q : i < length s = omega arith in
    let e = counted s n (i + 1) (turn s i k) (omega arith) in
    let d : take (suc n) (drop i s) ≡ get_or s i 0 ∷ take n (drop (i + 1) s) = rw (drop-cons s i 0 q, add-one) in
    let r = take n (drop (i + 1) s) in
    let m : count_by is_newline (get_or s i 0 ∷ r) ≡ cond (eqb (get_or s i 0) 10) 1 0 + count_by is_newline r =
    sum_by-cons (λ b. cond (is_newline b) 1 0) (get_or s i 0) r in
    rw (e, d, m) (go (eqb (get_or s i 0) 10) (count_by is_newline r))
  where
    go : (t : Bool) (r : ℕ) → cond t (k + 1) k + r ≡ k + (cond t 1 0 + r)
    go true r = omega arith
    go false r = omega arith

pub newlines-count : (s : List ℕ) (n : ℕ) → n ≤ length s → newlines s n ≡ count_by is_newline (take n s) + 1
unfolding newlines
newlines-count s n h = let e = counted s n 0 1 (omega arith) in omega arith

pub line_number-count : (s : List ℕ) (at : ℕ) → count_by is_newline (take (min at (length s)) s) + 1 ≡ line_number s at
unfolding line_number
line_number-count s at = pick (dec_lt at (length s))
  where
    pick : Dec (at < length s) → count_by is_newline (take (min at (length s)) s) + 1 ≡ cond (ltb at (length s)) (newlines s at) (newlines s (length s))
    pick (yes h) =
        let m : min at (length s) ≡ at = omega arith in
        let l : at ≤ length s = omega arith in
        rw (m, lt-ltb at (length s) h, newlines-count s at l)
    pick (no h) =
        let m : min at (length s) ≡ length s = omega arith in
        let l : length s ≤ at = omega arith in
        let e : length s ≤ length s = omega arith in
        rw (m, le-ltb at (length s) l, newlines-count s (length s) e)

-- ---- a loop that counts newlines: n among the first i, and those to come, are r
pub count_few : (n i : ℕ) (t : Bool) → n ≤ i → n + bool_byte t ≤ i + 1
count_few n i true h = omega arith
count_few n i false h = omega arith

pub count_next : (s : List ℕ) (n i r : ℕ) → n + count_by is_newline (drop i s) ≡ r → i < length s →
    n + bool_byte (eqb (get_or s i 0) 10) + count_by is_newline (drop (i + 1) s) ≡ r
count_next s n i r e h =
    let d : drop i s ≡ get_or s i 0 ∷ drop (i + 1) s = rw (drop-cons s i 0 h, add-one) in
    let m : count_by is_newline (get_or s i 0 ∷ drop (i + 1) s) ≡ cond (eqb (get_or s i 0) 10) 1 0 + count_by is_newline (drop (i + 1) s) =
    sum_by-cons (λ b. cond (is_newline b) 1 0) (get_or s i 0) (drop (i + 1) s) in
    go (eqb (get_or s i 0) 10) (count_by is_newline (drop (i + 1) s)) (rw (d, m) at e)
  where
    go : (t : Bool) (k : ℕ) → n + (cond t 1 0 + k) ≡ r → n + bool_byte t + k ≡ r
    go true k q = omega arith
    go false k q = omega arith

pub count_end : (s : List ℕ) (n i r : ℕ) → n + count_by is_newline (drop i s) ≡ r → length s ≤ i → n ≡ r
count_end s n i r e h = let z = rw (drop_of_length-le s {i = i} h) at e in omega arith
