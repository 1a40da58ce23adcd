-- A slot's words as they are laid and as they are read, and that a job judges itself: what the words hold is a job exactly where loading
-- them gives one. Assumes nothing.
use Prim.Native.Nat.{ℕ, ◌-◌}
use mathlib.Core.Path.{◌≡◌, sym, ap, ◌∙◌}
use mathlib.Core.Bool.{true, false}
use mathlib.Core.List.{List}
use native.Mathlib.Omega.{arith}
use lib.ListN.{length, get_or, take, drop, set, replicate, length-drop}
use lib.Seq.{take_all}
use borrow.Rule.Slice.PartMut.{put_mid}
use lib.Dec.{eqb}
use lib.Pointwise.{pointwise}
use Rattle.std.specs.List.{list_all}
use Rattle.packing.specs.Packing.{words_of, fields_of}
use Rattle.fields.specs.declared.held.Fields.{Fields}
use Rattle.exchange.specs.declared.job.State.{State}
use Rattle.exchange.specs.Job.{Held, held, held_of, standing_of}
use Rattle.bank.specs.Sizes.{all_zero, same}
use Rattle.bank.specs.Slot.{state_word, failure_word, slot_words, empty, broken, holds}
use Rattle.bank.specs.Content.{standing_near, near_in, packed_of}
use Rattle.bank.proofs.WordLaws.{zeros, slices_same}

-- ---- a job laid into words that are zero
pub slot_laid : (j : Held) (s f : ℕ) (p q : List ℕ) → s ≡ state_word j.standing → f ≡ failure_word j.standing → p ≡ words_of j.fields → q ≡ p
    → put_mid 2 137 (set (set (replicate 256 0) 0 s) 1 f) q ≡ slot_words 256 j
unfolding slot_words
slot_laid j s f p q a b c d = rw (a, b, d, c)

-- ---- words that are read
pub near_is : (w : List ℕ) (f : Fields) (s : State) → f ≡ fields_of (take (length w - 2) (drop 2 w))
    → standing_of s ≡ standing_near (get_or w 0 0) (get_or w 1 0) → held f (standing_of s) ≡ near_in w
near_is w f s a b =
    let rest : take (length w - 2) (drop 2 w) ≡ drop 2 w = take_all (length w - 2) (drop 2 w) (simp length-drop (omega arith)) in
    (λ i. held ((a ∙ ap fields_of rest) i) (b i))

pub load_empty : (w : List ℕ) → list_all (λ x. eqb x 0) w ≡ true → empty ≡ packed_of w
unfolding packed_of
load_empty w z = rw (sym (zeros w) ∙ z)

module _ (w : List ℕ) (j : Held) (near : j ≡ near_in w) (long : length w ≡ 256) (some : list_all (λ x. eqb x 0) w ≡ false) where
  packed_same : pointwise eqb (slot_words 256 j) w ≡ same (slot_words (length w) (near_in w)) w
  packed_same = slices_same (slot_words 256 j) w ∙ (λ i. same (slot_words (sym long i) (near i)) w)

  pub load_holds : pointwise eqb (slot_words 256 j) w ≡ true → holds j ≡ packed_of w
  unfolding packed_of
  load_holds e = rw (sym (zeros w) ∙ some, sym packed_same ∙ e) (ap holds near)

  pub load_broken : pointwise eqb (slot_words 256 j) w ≡ false → broken ≡ packed_of w
  unfolding packed_of
  load_broken e = rw (sym (zeros w) ∙ some, sym packed_same ∙ e)
