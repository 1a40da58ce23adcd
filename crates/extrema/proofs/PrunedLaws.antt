-- What is kept of the candidates: how many, and from where. Assumes nothing.
use Rattle.std.specs.Prelude.{Result, Ok, Err}
use Prim.Native.Nat.{ℕ, zero, suc, ◌+◌, ◌-◌, ◌/◌, ◌<◌, ◌≤◌}
use mathlib.Core.Path.{◌≡◌, refl, sym, ap, ◌∙◌}
use mathlib.Core.List.{List, [], ◌∷◌, ◌++◌, map}
use native.Mathlib.Nat.{sub-zero, zero-add, not-suc-le-zero, le_of_suc-le-suc}
use native.Mathlib.Omega.{arith}
use lib.ListN.{length, get_or, drop, replicate, length-map}
use lib.Seq.{get_or-take, take_all}
use lib.Ieee.{Float}
use Rattle.numbers.specs.Floats.{all_finite}
use Rattle.numbers.specs.Loops.{tab}
use Rattle.numbers.specs.Outcome.{refused, gave, unless}
use Rattle.numbers.specs.Refusals.{refusal_number, Filled}
use Rattle.numbers.specs.declared.Refusal.{Refusal}
use Rattle.numbers.proofs.Given.{unless_given}
use Rattle.numbers.proofs.Lanes.{tab-same}
use Rattle.numbers.proofs.OutcomeLaws.{filled_is, filled_refused}
use Rattle.numbers.proofs.InPlace.{map-tab}
use Rattle.numbers.proofs.LoopLaws.{length-tab}
use Rattle.pruning.specs.declared.candidates.Candidate.{Candidate}
use Rattle.pruning.specs.Candidates.{none, all, view}
use Rattle.pruning.proofs.ViewLaws.{length-view}
use Rattle.pruning.specs.Alternation.{RisingFrom}
use Rattle.pruning.specs.Errors.{sized, kept_places, prune_for}
use Rattle.pruning.specs.Sort.{sorted_words}
use Rattle.pruning.proofs.Places.{places_rise}
use Rattle.pruning.proofs.SortLaws.{length_sorted_words, view-sorted}
use Rattle.extrema.specs.Extrema.{error_of, chosen, kept_of, pruned_to, packed}

drop-replicate : {A : Type 0} (n m : ℕ) (z : A) → drop n (replicate m z) ≡ replicate (m - n) z
drop-replicate zero m z = rw sub-zero
drop-replicate (suc n) zero z = let e : 0 - suc n ≡ 0 = omega arith in rw e
drop-replicate (suc n) (suc m) z = let e : suc m - suc n ≡ m - n = omega arith in rw e (drop-replicate n m z)

-- places read into an array of zeros
pub packs : (l : List Candidate) (places : List ℕ) → length places ≤ 65
    → record { list = chosen l places ++ drop (length places) (replicate 65 none); count = length places } ≡ packed (chosen l places)
packs l places h =
    let e : length (chosen l places) ≡ length places = length-tab (λ i. get_or l (get_or places i 0) none) (length places) 0 in
    rw (e, drop-replicate (length places) 65 none)

-- what is read of the first m candidates
pub read_front : (f : Candidate → Float) (w : List ℕ) (m : ℕ) → m ≤ length w / 2 → tab (λ k. f (get_or (all w) (0 + k) none)) m 0 ≡ map f (view w m)
read_front f w m h =
    sym
    (map-tab f (view w m) none
    ∙ ap (λ z. tab (λ k. f (get_or (view w m) k none)) z 0) (length-view w m h)
    ∙ tab-same (λ k. f (get_or (view w m) k none)) (λ k. f (get_or (all w) (0 + k) none)) m 0
    (λ k a b. ap f (rw zero-add (get_or-take m (all w) k none (rw zero-add at b)))))

-- ---- the places that pruning gives are places of the candidates that are there
rising-at : (k n : ℕ) (u : List ℕ) → RisingFrom k n u → (i : ℕ) → i < length u → get_or u i 0 < n
unfolding RisingFrom
rising-at k n [] r i h = absurd (not-suc-le-zero h)
rising-at k n (x ∷ u) r zero h = r.1
rising-at k n (x ∷ u) r (suc i) h = rising-at (suc x) n u r.2 i (le_of_suc-le-suc h)

leaf_rises : (e : List Float) (n room : ℕ) (u : List ℕ) → prune_for e n room ≡ gave u → RisingFrom 0 (length e) u
unfolding prune_for
leaf_rises e n room u h =
    let a = unless_given (sized (length e) n room) 15 (unless (all_finite e) 9 (kept_places e n)) h in
    places_rise e n u (unless_given (all_finite e) 9 (kept_places e n) a.rest).rest

chosen-view : (w : List ℕ) (m : ℕ) (u : List ℕ) → RisingFrom 0 m u → chosen (all w) u ≡ chosen (view w m) u
chosen-view w m u r =
    tab-same (λ i. get_or (all w) (get_or u i 0) none) (λ i. get_or (view w m) (get_or u i 0) none) (length u) 0
    (λ k a h. sym (get_or-take m (all w) (get_or u k 0) none (rising-at 0 m u r k (rw zero-add at h))))

-- ---- what is answered, of pruning's verdict v and the places p' that it leaves
module _ (w : List ℕ) (m n : ℕ) (e : List Float) (e-is : e ≡ map error_of (view w m)) (p p' : List ℕ) (room : length p ≡ n) where
  pub kept_taken : m ≤ length w / 2 → length p' ≡ n → {v : Result Unit Refusal} → Filled (prune_for e n (length p)) n v p p' → v ≡ (Ok tt) → gave (chosen (all w) p') ≡ kept_of n (view w m)
  unfolding kept_of
  kept_taken h long {v} f t =
      let g : gave p' ≡ prune_for e n n = rw (take_all n p' (omega (arith, long)), room) at (filled_is f n refl t) in
      let len : length e ≡ m = rw e-is (length-map (view w m) error_of ∙ length-view w m h) in
      let r : RisingFrom 0 m p' = rw len at (leaf_rises e n n p' (sym g)) in
      rw (← e-is, ← g, chosen-view w m p' r)

  pub kept_refused : {v : Result Unit Refusal} → Filled (prune_for e n (length p)) n v p p' → {q : Refusal} → v ≡ Err q → refused (refusal_number q) ≡ kept_of n (view w m)
  unfolding kept_of
  kept_refused {v} f {q} t = let g = rw room at (filled_refused f t) in rw (← e-is, ← g)

-- ---- the words of the candidates, sorted
module _ (w w' : List ℕ) (count : ℕ) (e : w' ≡ sorted_words w count) where
  pub sorted_room : count ≤ length w / 2 → count ≤ length w' / 2
  sorted_room h = rw (e, length_sorted_words w count) h

  pub sorted_kept : (n : ℕ) → kept_of n (view w' count) ≡ pruned_to n (view w count)
  unfolding pruned_to
  sorted_kept n = rw (e, view-sorted w count)
