-- What a slot's words tell where a job is loaded from them: packing it gives the same words, its fields are accepted and its state agrees.
-- Assumes nothing.
use Prim.Native.Nat.{ℕ}
use mathlib.Core.Path.{◌≡◌, refl}
use mathlib.Core.Bool.{Bool, true, false, cond}
use mathlib.Core.List.{List, [], ◌∷◌}
use native.Mathlib.Omega.{arith}
use borrow.Author.Tests.{eqb-true}
use lib.Dec.{eqb}
use lib.ListN.{length, drop}
use Rattle.numbers.specs.Outcome.{Outcome, refused, gave, unless}
use Rattle.numbers.proofs.Given.{unless_given, bind_given}
use Rattle.numbers.proofs.LoopLaws.{length-tab}
use Rattle.numbers.proofs.Order.{and_1, and_2}
use Rattle.packing.specs.Packing.{number, point_at, fields_of}
use Rattle.fields.specs.Interpolant.{Interpolation}
use Rattle.fields.specs.Accept.{accept_of}
use Rattle.exchange.specs.Job.{Held, agrees, four, job_for}
use Rattle.exchange.proofs.DesignLaws.{job_accepted}
use Rattle.bank.specs.Sizes.{all_zero, same}
use Rattle.bank.specs.Slot.{slot_words, held_in, is_given, is_job, empty, broken, holds, load_of}

-- `same` is true of equal lists alone
pub same_is : (xs ys : List ℕ) → same xs ys ≡ true → xs ≡ ys
unfolding same
same_is [] [] e = refl
same_is [] (y ∷ ys) e = absurd (let z : ◌≡◌ {A = ℕ} 0 1 = cc in omega arith)
same_is (x ∷ xs) [] e = absurd (let z : ◌≡◌ {A = ℕ} 0 1 = cc in omega arith)
same_is (x ∷ xs) (y ∷ ys) e =
    let h : x ≡ y = eqb-true x y (and_1 (eqb x y) (same xs ys) e) in
    let t : xs ≡ ys = same_is xs ys (and_2 (eqb x y) (same xs ys) e) in
    rw (h, t)

pub record Given {A : Type 0} (o : Outcome A) : Type 0 where
  pub value : A
  pub is : o ≡ gave value

given_is : {A : Type 0} (o : Outcome A) → is_given o ≡ true → Given o
given_is (refused n) e = absurd (let z : ◌≡◌ {A = ℕ} 0 1 = cc in omega arith)
given_is (gave a) e = record { value = a; is = refl }

pub record Holding (ws : List ℕ) (j : Held) : Type 0 where
  pub is : held_in ws ≡ j
  pub words : slot_words (length ws) j ≡ ws
  pub interpolation : Interpolation
  pub job : job_for j ≡ gave interpolation
  pub accepted : accept_of j.fields ≡ gave interpolation
  pub agreeing : agrees j.fields j.standing ≡ true
  pub room : length j.fields.points ≡ 65

pub job_agrees : (j : Held) (i : Interpolation) → job_for j ≡ gave i → agrees j.fields j.standing ≡ true
unfolding job_for
job_agrees j i e =
    let t = agrees j.fields j.standing in
    let a = bind_given (four (accept_of j.fields)) (λ i. unless t 4 (gave i)) e in
    (unless_given t 4 (gave a.value) a.rest).test

fields_room : (w : List ℕ) → length (fields_of w).points ≡ 65
unfolding fields_of
fields_room w = length-tab (λ i. number w (point_at i)) 65 0

-- words that are a job hold the one that is read from them
held_holding : (ws : List ℕ) → is_job ws ≡ true → Holding ws (held_in ws)
unfolding is_job
held_holding ws e =
    let g = is_given (job_for (held_in ws)) in
    let s = same (slot_words (length ws) (held_in ws)) ws in
    let i = given_is (job_for (held_in ws)) (and_1 g s e) in
    record {
      is = refl;
      words = same_is (slot_words (length ws) (held_in ws)) ws (and_2 g s e);
      interpolation = i.value;
      job = i.is;
      accepted = job_accepted (held_in ws) i.value i.is;
      agreeing = job_agrees (held_in ws) i.value i.is;
      room = fields_room (drop 2 ws);
    }

holds_same : {j k : Held} → holds j ≡ holds k → j ≡ k
holds_same e = cc

choose : (ws : List ℕ) (j : Held) (a b : Bool) → is_job ws ≡ b → cond a empty (cond b (holds (held_in ws)) broken) ≡ holds j → Holding ws j
choose ws j true b q e = absurd (let z : ◌≡◌ {A = ℕ} 0 1 = cc in omega arith)
choose ws j false true q e = rw (← holds_same e) (held_holding ws q)
choose ws j false false q e = absurd (let z : ◌≡◌ {A = ℕ} 0 1 = cc in omega arith)

pub holding : (ws : List ℕ) (j : Held) → load_of ws ≡ holds j → Holding ws j
unfolding load_of
holding ws j e = choose ws j (all_zero ws) (is_job ws) refl e
