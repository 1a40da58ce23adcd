-- A loop that passes bytes up to the first at which a test holds. Assumes nothing.
use Rattle.std.proofs.Common.{ℕ, ◌+◌, ◌-◌, ◌<◌, ◌≤◌, ◌≡◌, refl, Bool, true, false, List, add-one, arith, rules, length, get_or, take, drop, length-drop}
use Rattle.std.proofs.lemmas.List.Recursion.{is_position_or_len}
use Rattle.std.specs.List.{position_or_len}
use lib.ListN.{drop_of_length-le}
use lib.Seq.{drop-cons, take_all}
use Rattle.text.specs.Words.{before}

-- the place i, and what is left to pass from there, make r
pub record Passing {S : Type 0} (test : S → ℕ → Bool) (f : S → ℕ → S) (s : List ℕ) (i : ℕ) (m : S) (r : ℕ) : Type 0 where
  pub rest : i + before test f m (drop i s) ≡ r

module _ {S : Type 0} {test : S → ℕ → Bool} {f : S → ℕ → S} {s : List ℕ} {i : ℕ} {m : S} where
  pub pass_start : Passing test f s i m (i + before test f m (drop i s))
  pass_start = record { rest = refl }

  pub pass_stop : {r : ℕ} → Passing test f s i m r → i < length s → test m (get_or s i 0) ≡ true → i ≡ r
  unfolding before
  pass_stop {r} g h e = let z : i + 0 ≡ r = rw (drop-cons s i 0 h, e) at g.rest in omega arith

  pub pass_next : {n : S} {r : ℕ} → Passing test f s i m r → i < length s → test m (get_or s i 0) ≡ false → n ≡ f m (get_or s i 0) →
      Passing test f s (i + 1) n r
  unfolding before
  pass_next {n} {r} g h e q =
      record { rest = rw (q, add-one) (let z = rw (drop-cons s i 0 h, e) at g.rest in omega arith) }

  pub pass_end : {r : ℕ} → Passing test f s i m r → length s ≤ i → i ≡ r
  unfolding before
  pass_end {r} g h = let z : i + 0 ≡ r = rw (drop_of_length-le s {i = i} h) at g.rest in omega arith

-- with no state it is the place of the first such byte, or the length
pub before-position : (test : ℕ → Bool) (s : List ℕ) → before (λ (u : Unit {0}) b. test b) (λ u b. u) tt s ≡ position_or_len test s
unfolding before
before-position test s = is_position_or_len (before (λ (u : Unit {0}) b. test b) (λ u b. u) tt) test refl (λ x xs. search (rules)) s

-- the bytes from a place on are all that is left
pub all_from : (s : List ℕ) (i : ℕ) → take (length s - i) (drop i s) ≡ drop i s
all_from s i = take_all (length s - i) (drop i s) (let z = length-drop i s in omega (arith, z))
