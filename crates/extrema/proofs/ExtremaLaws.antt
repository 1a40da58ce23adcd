-- The chain of a search: what each return of the code is in it. Assumes nothing.
use Prim.Native.Nat.{ℕ, ◌+◌, ◌≤◌, ◌<◌}
use mathlib.Core.Path.{◌≡◌, refl, ◌∙◌}
use mathlib.Core.Bool.{cond}
use mathlib.Core.List.{List, [], ◌++◌}
use borrow.Author.Tests.{lt-ltb, le-ltb, le-leb}
use lib.Dec.{ltb}
use lib.ListN.{length, drop, replicate}
use lib.Ieee.{Float}
use Rattle.numbers.specs.Outcome.{refused, gave, bind, sweep}
use Rattle.numbers.proofs.OutcomeLaws.{bind_next, bind_stop}
use Rattle.chebyshev.specs.Nodes.{nodes_for}
use Rattle.fir_types.specs.declared.edges.Interval.{Interval}
use Rattle.subdivision.specs.Subdivide.{Intervals}
use Rattle.pruning.specs.declared.candidates.Candidate.{Candidate}
use Rattle.extrema.specs.Errors.{Curve}
use Rattle.extrema.specs.Proxy.{ends_of, inside_of}
use Rattle.extrema.specs.Extrema.{pruned_to, collected, extrema_of, extrema_in, extrema_for, intervals_of}

-- ---- the candidates of all subintervals: the ends, and what lies inside
module _ (c : Curve) (nodes : List Float) (vs : List Interval) where
  pub collected_is : (a : List Candidate) {b : List Candidate} → gave a ≡ sweep (ends_of c) vs [] → gave b ≡ sweep (inside_of c nodes) vs a → gave b ≡ collected c nodes vs
  unfolding collected
  collected_is a p q = bind_next _ p q

  pub inside_refused : (a : List Candidate) {n : ℕ} → gave a ≡ sweep (ends_of c) vs [] → refused n ≡ sweep (inside_of c nodes) vs a → refused n ≡ collected c nodes vs
  unfolding collected
  inside_refused a p q = bind_next _ p q

  pub ends_refused : {n : ℕ} → refused n ≡ sweep (ends_of c) vs [] → refused n ≡ collected c nodes vs
  unfolding collected
  ends_refused p = bind_stop _ p

-- ---- the limits
module _ (c : Curve) (v : Intervals) (degree n : ℕ) where
  pub in_limits : v.count ≤ 73 → n ≤ 65 → 2 ≤ degree → degree ≤ 16 → extrema_of c (intervals_of v) degree n ≡ extrema_in c v degree n
  unfolding extrema_in
  in_limits h k d e = rw (le-leb v.count 73 h, le-leb n 65 k, le-leb 2 degree d, le-leb degree 16 e)

  pub searched : (nodes : List Float) → v.count ≤ 73 → n ≤ 65 → 2 ≤ degree → degree ≤ 16 → gave nodes ≡ nodes_for degree (degree + 1)
      → bind (collected c nodes (intervals_of v)) (pruned_to n) ≡ extrema_in c v degree n
  unfolding extrema_of
  searched nodes h k d e g = bind_next (λ nodes. bind (collected c nodes (intervals_of v)) (pruned_to n)) g refl ∙ in_limits h k d e

  pub nodes_refused : {q : ℕ} → v.count ≤ 73 → n ≤ 65 → 2 ≤ degree → degree ≤ 16 → refused q ≡ nodes_for degree (degree + 1) → refused q ≡ extrema_in c v degree n
  unfolding extrema_of
  nodes_refused {q} h k d e g = rw (← in_limits h k d e) (bind_stop _ g)

  pub enough_words : (words : ℕ) → 2482 ≤ words → extrema_in c v degree n ≡ extrema_for c v degree n words
  unfolding extrema_for
  enough_words words h = rw (le-leb 2482 words h)

-- ---- the words afterwards
pub kept_words : (n : ℕ) (w z : List ℕ) → length w < n → w ≡ cond (ltb (length w) n) w z
kept_words n w z h = rw (lt-ltb (length w) n h)

-- the front, worked in and then wiped
pub wiped_words : (n : ℕ) (w zeros : List ℕ) → n ≤ length w → zeros ≡ replicate n 0 → zeros ++ drop n w ≡ cond (ltb (length w) n) w (replicate n 0 ++ drop n w)
wiped_words n w zeros h e = rw (le-ltb (length w) n h, e)
