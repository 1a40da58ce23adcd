-- A test that holds at every place: shown by each place, by each two neighbours, and refuted by one place. Assumes nothing.
use Prim.Native.Nat.{ℕ, zero, suc, ◌+◌, ◌-◌, ◌<◌, ◌≤◌}
use mathlib.Core.Path.{◌≡◌, refl, sym, ◌∙◌}
use mathlib.Core.Bool.{Bool, true, false, not}
use mathlib.Core.List.{List}
use native.Mathlib.Omega.{arith}
use native.Mathlib.Nat.{sub-zero, zero-add}
use lib.ListN.{length, get_or}
use denote.Param.Members.{Mut}
use Rattle.std.proofs.iter.Yields.{nat_range_steps}
use Rattle.std.proofs.lemmas.Iterator.{YieldsList-from_range, cases_from_all}
use Rattle.std.proofs.lemmas.List.FromFn.{length-range_with_len, get_or-range_with_len}
use Rattle.std.specs.Prelude.{Option, MatchOption}
use Rattle.std.specs.declared.ops.Range.{Range}
use Rattle.std.specs.Bool.{MatchBool}
use Rattle.std.specs.Fn.{Called}
use Rattle.std.specs.Iterator.{YieldsThen}
use Rattle.std.specs.List.{IsAllAdjacentAnswer, AllWithin, HoldsAt, FoldsTo, range_with_len}
use Rattle.numbers.specs.Loops.{every}
use Rattle.numbers.proofs.LoopLaws.{every-at, every_from}

module _ (test : ℕ → Bool) (n : ℕ) where
  pub every_true : ((k : ℕ) → k < n → test k ≡ true) → true ≡ every test n
  every_true h = sym (every_from test n 0 (λ k p q. h k (omega arith)))

  pub every_false : (k : ℕ) → k < n → test k ≡ false → false ≡ every test n
  every_false k p h = go (every test n) refl
    where
      go : (b : Bool) → every test n ≡ b → false ≡ b
      go true e = let z = every-at test n k e p in cc
      go false e = refl

-- what a slice's `is_sorted_by` answers
pub every_neighbour :
    {A : Type 0} (e : A → A → Bool) (d : A) (xs : List A) (r : Bool) → IsAllAdjacentAnswer (λ x y b. b ≡ e x y) xs r
    → r ≡ every (λ i. e (get_or xs i d) (get_or xs (i + 1) d)) (length xs - 1)
every_neighbour e d xs true h = every_true (λ i. e (get_or xs i d) (get_or xs (i + 1) d)) (length xs - 1) (λ k p. sym (h k d (omega arith)))
every_neighbour e d xs false h = every_false (λ i. e (get_or xs i d) (get_or xs (i + 1) d)) (length xs - 1) h.0 (omega (arith, h.1)) (sym (h.2 d))

-- what a range's `all` answers, of a closure that gives what the test gives and stays as it was
pub every_all :
    {F : Type 0} {g : Mut F (ℕ × Unit {0}) Bool} {s u : Range ℕ} {f : F} {r : Bool} (test : ℕ → Bool) (n : ℕ) → s ≡ record { start = 0; end = n }
    → (xs : List ℕ) × (o : Option ℕ) × (j : F) × YieldsThen nat_range_steps s xs o u × FoldsTo (λ p x q. Called g p (x, tt) true q) f xs j × MatchOption o (r ≡ true) (λ x. (r ≡ false) × ((h : F) × Called g j (x, tt) false h))
    → ((x : ℕ) (b : Bool) (q : F) → Called g f (x, tt) b q → (b ≡ test x) × (q ≡ f)) → r ≡ every test n
every_all {F} {g} {s} {u} {f} {r} test n e ran own =
    answer r (cases_from_all u f r (λ x. test x ≡ true) (λ x. test x ≡ false) ran (YieldsList-from_range 0 n n e (sub-zero n)) (λ x q k. ((own x true q k).1, sym (own x true q k).0)) (λ x q k. sym (own x false q k).0))
  where
    all : List ℕ
    all = range_with_len 0 n

    at : (k : ℕ) → k < n → get_or all k 0 ≡ k
    at k p = get_or-range_with_len 0 n k 0 p ∙ zero-add k

    answer : (r : Bool) → MatchBool r (AllWithin (λ x. test x ≡ true) all 0 (length all)) ((k : ℕ) × (k < length all) × HoldsAt (λ x. test x ≡ false) all k) → r ≡ every test n
    answer true h = every_true test n (λ k p. rw (at k p) at (h k 0 (omega arith) (omega (arith, length-range_with_len 0 n))))
    answer false h =
        let p : h.0 < n = omega (arith, h.1, length-range_with_len 0 n) in
        every_false test n h.0 p (rw (at h.0 p) at (h.2 0))
