-- A loop that reads the digits of a numeral: at most 16 of a base up to 16 fit 64 bits. Assumes nothing.
use Rattle.std.proofs.Common.{ℕ, suc, ◌+◌, ◌*◌, ◌^◌, ◌<◌, ◌≤◌, ◌≡◌, refl, List, Option, Some, None, add-one, arith, le-leb, length, get_or, drop}
use native.Mathlib.Nat.{suc-mul, pow-suc, mul-le-mul, pow-le-pow_right}
use borrow.Author.Tests.{lt-leb}
use lib.ListN.{drop_of_length-le}
use lib.Seq.{drop-cons}
use Rattle.text.specs.Numerals.{numeral, value_of, Short}

-- n and the digits from i on make r
pub record Reading (base : ℕ) (s : List ℕ) (n i : ℕ) (r : Option ℕ) : Type 0 where
  pub rest : numeral base n (drop i s) ≡ r
  pub small : n < 16 ^ i

pub read_start : {base : ℕ} {s : List ℕ} → Reading base s 0 0 (numeral base 0 s)
read_start = record { rest = refl; small = omega arith }

-- one digit more
more : {base n v : ℕ} (i : ℕ) → n < 16 ^ i → v < base → base ≤ 16 → n * base + v < 16 ^ (i + 1)
more {base} {n} {v} i a b c =
    let p : suc n * base ≤ 16 ^ i * 16 = mul-le-mul a c in
    let q : n * base + base ≤ 16 ^ i * 16 = rw suc-mul at p in
    rw (add-one, pow-suc) (omega arith)

-- the digits of a text that is not too long
pub sum_fits : {base n v i : ℕ} {s : List ℕ} {r : Option ℕ} →
    Reading base s n i r → Short s base → i < length s → v < base → n * base + v < 2 ^ 64
sum_fits {base} {n} {v} {i} {s} {r} g k h b =
    let p : n * base + v < 16 ^ (i + 1) = more i g.small b k.base_most in
    let q : 16 ^ (i + 1) ≤ 16 ^ 16 = pow-le-pow_right {n = 16} (omega arith) {i = i + 1} {j = 16} (omega (arith, k.length_most)) in
    omega arith

pub product_fits : {base n v i : ℕ} {s : List ℕ} {r : Option ℕ} →
    Reading base s n i r → Short s base → i < length s → v < base → n * base < 2 ^ 64
product_fits {base} {n} {v} {i} {s} {r} g k h b = let p : n * base + v < 2 ^ 64 = sum_fits g k h b in omega arith

module _ {base n i : ℕ} {s : List ℕ} {r : Option ℕ} (g : Reading base s n i r) where
  pub read_none : i < length s → value_of (get_or s i 0) ≡ None → None ≡ r
  unfolding numeral
  read_none h e = rw (drop-cons s i 0 h, e) at g.rest

  pub read_wrong : {v : ℕ} → i < length s → value_of (get_or s i 0) ≡ Some v → base ≤ v → None ≡ r
  unfolding numeral
  read_wrong h e k = rw (drop-cons s i 0 h, e, le-leb _ _ k) at g.rest

  pub read_next : {v : ℕ} → i < length s → value_of (get_or s i 0) ≡ Some v → v < base → base ≤ 16 →
      Reading base s (n * base + v) (i + 1) r
  unfolding numeral
  read_next h e b k = record {
    rest = rw add-one (rw (drop-cons s i 0 h, e, lt-leb _ _ b) at g.rest);
    small = more i g.small b k;
  }

  pub read_end : length s ≤ i → Some n ≡ r
  unfolding numeral
  read_end h = rw (drop_of_length-le s {i = i} h) at g.rest
