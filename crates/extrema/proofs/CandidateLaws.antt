-- Candidates that are put behind those that are there, one after another. Assumes nothing.
use Prim.Native.Nat.{ℕ, suc, ◌+◌, ◌-◌, ◌/◌, ◌≤◌, ◌<◌}
use mathlib.Core.Path.{◌≡◌, refl, ap, ◌∙◌}
use mathlib.Core.Bool.{true, not}
use mathlib.Core.List.{List, ◌++◌, append_assoc, append-nil}
use native.Mathlib.Omega.{arith}
use native.Mathlib.Nat.{add-zero, sub-zero}
use borrow.Author.Tests.{ne_eqb, eq-eqb}
use lib.Dec.{T}
use lib.ListN.{length}
use lib.Ieee.{Float, binary64, fits, is_nan}
use lib.Ieee.Scale.{finite}
use Rattle.numbers.specs.Loops.{tab}
use Rattle.numbers.proofs.Unit.{number_is}
use Rattle.pruning.specs.declared.candidates.Candidate.{Candidate}
use Rattle.pruning.specs.Candidates.{view, put, written, Framed}
use Rattle.pruning.proofs.ViewLaws.{sound, view_more, length-put, framed_same, framed_put}
use Rattle.numbers.specs.Outcome.{refused, gave}
use Rattle.extrema.specs.Errors.{Curve, errors_for}
use Rattle.extrema.specs.Candidates.{candidate, joined, candidates_for}

-- a candidate of finite numbers is read as it was written
pub finite_written : (x e : Float) → T (fits binary64 x) → finite x ≡ true → T (fits binary64 e) → finite e ≡ true → written (candidate x e) ≡ candidate x e
finite_written x e f p g q =
    sound (candidate x e) f (number_is_not x p) g (number_is_not e q)
  where
    number_is_not : (y : Float) → finite y ≡ true → T (not (is_nan y))
    number_is_not y h = rw (number_is y h) (tt {0})

-- ---- the candidates at some places: of their errors; the refusal of these; or none at no places
module _ (c : Curve) (places : List Float) where
  pub candidates_next : (l : List Candidate) {e : List Float} {t : List Candidate} → 1 ≤ length places → gave e ≡ errors_for c places → t ≡ l ++ joined places e → gave t ≡ candidates_for c places l
  unfolding candidates_for
  candidates_next l {e} {t} h p q = let z : length places ≡ 0 → ⊥ = λ k. omega arith in rw (ne_eqb (length places) 0 z, ← p) (ap (λ r. gave r) q)

  pub candidates_stop : (l : List Candidate) {n : ℕ} → 1 ≤ length places → refused n ≡ errors_for c places → refused n ≡ candidates_for c places l
  unfolding candidates_for
  candidates_stop l {n} h p = let z : length places ≡ 0 → ⊥ = λ k. omega arith in rw (ne_eqb (length places) 0 z, ← p)

  pub candidates_none : {l : List Candidate} → length places ≡ 0 → gave l ≡ candidates_for c places l
  unfolding candidates_for
  candidates_none h = rw (eq-eqb (length places) 0 h)

-- the first i of m are behind the n of w₀, and the others are to come
pub record Putting (g : ℕ → Candidate) (m n : ℕ) (w₀ : List ℕ) (i : ℕ) (w : List ℕ) : Type 0 where
  pub within : i ≤ m
  pub long : length w ≡ length w₀
  pub framed : Framed (n + m) w₀ w
  pub rest : view w (n + i) ++ tab g (m - i) i ≡ view w₀ n ++ tab g m 0

module _ {g : ℕ → Candidate} {m n : ℕ} {w₀ : List ℕ} where
  pub put_start : Putting g m n w₀ 0 w₀
  put_start = record { within = omega arith; long = refl; framed = framed_same (n + m) w₀; rest = rw (add-zero, sub-zero) }

  pub put_next : {i : ℕ} {w : List ℕ} → Putting g m n w₀ i w → i < m → n + i < length w / 2 → written (g i) ≡ g i → Putting g m n w₀ (i + 1) (put w (n + i) (g i))
  unfolding tab
  put_next {i} {w} p h l e =
      let k : m - i ≡ suc (m - (i + 1)) = omega arith in
      let z : n + (i + 1) ≡ n + i + 1 = omega arith in
      record {
        within = omega arith;
        long = length-put w (n + i) (g i) ∙ p.long;
        framed = framed_put (n + m) w₀ w (n + i) (g i) (omega arith) p.framed;
        rest = rw (z, view_more w (n + i) (g i) e l, append_assoc) (rw k at p.rest);
      }

  pub put_end : {i : ℕ} {w : List ℕ} → Putting g m n w₀ i w → m ≤ i → view w (n + m) ≡ view w₀ n ++ tab g m 0
  unfolding tab
  put_end {i} {w} p h =
      let k : i ≡ m = omega (arith, p.within) in
      let z : m - m ≡ 0 = omega arith in
      rw (k, z, append-nil) at p.rest
