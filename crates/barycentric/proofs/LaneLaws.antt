-- Loops over lanes: a loop that takes each number of a list through f, and what such steps make together. Assumes nothing.
use Prim.Native.Nat.{ℕ, ◌+◌, ◌<◌, ◌≤◌}
use mathlib.Core.Path.{◌≡◌, refl, sym, ap, ◌∙◌}
use mathlib.Core.Bool.{Bool, true, false, cond}
use mathlib.Core.List.{List, append-nil}
use native.Mathlib.Nat.{not-suc-le-zero}
use native.Mathlib.Omega.{arith}
use borrow.Author.Tests.{eqb-true, eqb-false, eq-eqb, ne_eqb}
use lib.Dec.{eqb}
use lib.ListN.{length, get_or, set, length-set, drop_of_length-le, take, replicate, get_or-replicate}
use lib.Seq.{get_or-set_same, get_or-set_other, ext_get_or, get_or-take}
use lib.Ieee.{Float, nan}
use Rattle.numbers.specs.Loops.{tab}
use Rattle.numbers.proofs.LoopLaws.{Going, put, fill_start, length-tab}
use Rattle.numbers.proofs.Lanes.{tab-get}
use Rattle.barycentric.specs.Lanes.{Each}

-- a fact by two cases: i is k, or is not
by_cases : {A : Type 0} (i k : ℕ) → (i ≡ k → A) → ((i ≡ k → ⊥) → A) → A
by_cases {A} i k same other = go (eqb i k) refl
  where
    go : (b : Bool) → eqb i k ≡ b → A
    go true e = same (eqb-true i k e)
    go false e = other (eqb-false i k e)

-- ---- the loop, at place k: the numbers before k are done, the others as they were
pub record Passing (f : ℕ → Float → Float) (p₀ : List Float) (k : ℕ) (p : List Float) : Type 0 where
  pub same : length p ≡ length p₀
  pub done : (i : ℕ) → i < k → i < length p₀ → get_or p i nan ≡ f i (get_or p₀ i nan)
  pub left : (i : ℕ) → k ≤ i → get_or p i nan ≡ get_or p₀ i nan

module _ {f : ℕ → Float → Float} where
  pub pass_start : {p : List Float} → Passing f p 0 p
  pass_start = record { same = refl; done = λ i h l. absurd (not-suc-le-zero h); left = λ i h. refl }

  pub pass_next : {p₀ p : List Float} {k : ℕ} {v : Float} → Passing f p₀ k p → k < length p₀ → v ≡ f k (get_or p k nan)
      → Passing f p₀ (k + 1) (set p k v)
  pass_next {p₀} {p} {k} {v} g h e =
      record {
        same = simp length-set g.same;
        done = λ i l m.
            by_cases i k
            (λ (q : i ≡ k). rw q (get_or-set_same p k v nan (omega (arith, g.same)) ∙ e ∙ ap (f k) (g.left k (omega arith))))
            (λ (q : i ≡ k → ⊥). get_or-set_other p k i v nan q ∙ g.done i (omega (arith, q)) m);
        left = λ i l. get_or-set_other p k i v nan (λ q. omega arith) ∙ g.left i (omega arith);
      }

  pub pass_end : {p₀ p : List Float} {k : ℕ} → Passing f p₀ k p → length p₀ ≤ k → Each f p₀ p
  pass_end {p₀} {p} {k} g h = record { same = g.same; at = λ i l. g.done i (omega arith) l }

-- ---- steps together
-- the number at j put back as it was
pub put_back : {f : ℕ → Float → Float} {p q : List Float} (j : ℕ) → Each f p q → j < length p
    → Each (λ k s. cond (eqb j k) s (f k s)) p (set q j (get_or p j nan))
put_back {f} {p} {q} j a h =
    record {
      same = simp length-set a.same;
      at = λ k l.
          by_cases j k
          (λ (e : j ≡ k). rw (← e, eq-eqb j j refl) (get_or-set_same q j (get_or p j nan) nan (omega (arith, a.same))))
          (λ (e : j ≡ k → ⊥). rw (ne_eqb j k e) (get_or-set_other q j k (get_or p j nan) nan (λ z. e (sym z)) ∙ a.at k l));
    }

-- one step after the other
pub each_then : {f g : ℕ → Float → Float} {p q r : List Float} → Each f p q → Each g q r → Each (λ k s. g k (f k s)) p r
each_then {f} {g} {p} {q} {r} a b =
    record { same = b.same ∙ a.same; at = λ k h. b.at k (omega (arith, a.same)) ∙ ap (g k) (a.at k h) }

-- ---- the list of what each place has come to
-- a list whose numbers are those of g is the list of g
pub tab_is : (g : ℕ → Float) (n : ℕ) (l : List Float) → length l ≡ n → ((k : ℕ) → k < n → get_or l k nan ≡ g k) → l ≡ tab g n 0
tab_is g n l e a =
    ext_get_or nan l (tab g n 0) (e ∙ sym (length-tab g n 0))
    (λ k h. let m : k < n = omega arith in a k m ∙ sym (tab-get g n k nan m))

-- a loop that fills the whole of a list
pub fill_whole : {A : Type 0} (g : ℕ → A) (n : ℕ) (o : List A) → length o ≡ n → Going (put g) n 0 o (tab g n 0)
fill_whole g n o e =
    let z : length o ≤ n = omega arith in
    rw (drop_of_length-le o {i = n} z, append-nil) at (fill_start g n o (omega arith))

-- the front of an array of one number
pub all_alike : (n m : ℕ) (v : Float) (k : ℕ) → k < n → n ≤ m → get_or (take n (replicate m v)) k nan ≡ v
all_alike n m v k h l = get_or-take n (replicate m v) k nan h ∙ get_or-replicate m k v nan (omega arith)
