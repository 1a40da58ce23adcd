-- Lists that are written from the front: into a longer list, or into one that is filled up with one value. Assumes nothing.
use Prim.Native.Nat.{ℕ, zero, suc, ◌+◌, ◌-◌, ◌<◌}
use mathlib.Core.Path.{◌≡◌, refl, sym, ap, ◌∙◌}
use mathlib.Core.List.{List, [], ◌∷◌, ◌++◌, append_assoc}
use native.Mathlib.Omega.{arith}
use native.Mathlib.Numerals.{add-one}
use native.Mathlib.Nat.{sub-zero, zero-sub, suc-sub-suc}
use lib.ListN.{length, set, take, drop, replicate, take-append-drop, length-append}
use lib.Seq.{take-suc-set, drop-set-lt}

-- ---- a loop that writes a list, entry by entry, to the front of o: the first j of its n entries are there, and `rest` is to come
pub record Writing {A : Type 0} (n j : ℕ) (o rest r : List A) : Type 0 where
  pub is : take j o ++ (rest ++ drop n o) ≡ r

module _ {A : Type 0} {n : ℕ} where
  pub write_start : {o l : List A} → Writing n 0 o l (l ++ drop n o)
  write_start = record { is = refl }

  pub write_next : {j : ℕ} {o l r : List A} {x : A} → Writing n j o (x ∷ l) r → j < n → j < length o → Writing n (j + 1) (set o j x) l r
  write_next {j} {o} {l} {r} {x} w h k =
      record { is = rw (add-one, take-suc-set o j x k, append_assoc, drop-set-lt) w.is }

  pub write_end : {j : ℕ} {o r : List A} → Writing n j o [] r → j ≡ n → o ≡ r
  write_end {j} {o} {r} w e = sym (take-append-drop n o) ∙ (rw e at w.is)

-- ---- a list at the front of an array of n entries that is z beyond it
set_behind : {A : Type 0} (l : List A) (k : ℕ) (z m : A) → set (l ++ replicate (suc k) z) (length l) m ≡ (l ++ (m ∷ [])) ++ replicate k z
set_behind [] k z m = refl
set_behind (x ∷ l) k z m = ap (λ r. x ∷ r) (set_behind l k z m)

pub length_more : {A : Type 0} (l : List A) (m : A) → length (l ++ (m ∷ [])) ≡ length l + 1
length_more l m = length-append l (m ∷ [])

pub padded_more : {A : Type 0} (n : ℕ) (z : A) (l : List A) (m : A) → length l < n
    → set (l ++ replicate (n - length l) z) (length l) m ≡ (l ++ (m ∷ [])) ++ replicate (n - length (l ++ (m ∷ []))) z
padded_more n z l m h =
    let k : n - length l ≡ suc (n - (length l + 1)) = omega arith in
    ap (λ i. set (l ++ replicate i z) (length l) m) k
    ∙ set_behind l (n - (length l + 1)) z m
    ∙ ap (λ i. (l ++ (m ∷ [])) ++ replicate (n - i) z) (sym (length_more l m))

drop-replicate : {A : Type 0} (n m : ℕ) (z : A) → drop n (replicate m z) ≡ replicate (m - n) z
drop-replicate zero m z = rw sub-zero
drop-replicate (suc n) zero z = rw zero-sub
drop-replicate (suc n) (suc m) z = rw suc-sub-suc (drop-replicate n m z)

-- one whose front was lent and came back
pub padded_lent : {A : Type 0} (m : ℕ) (z : A) (n : ℕ) (l : List A) → length l ≡ n → l ++ drop n (replicate m z) ≡ l ++ replicate (m - length l) z
padded_lent m z n l e = ap (λ k. l ++ k) (drop-replicate n m z) ∙ rw (← e)
