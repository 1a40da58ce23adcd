-- What an outcome that gave something tells: of the test before it, of the chain behind it, and of a gathered list, which is as
-- long as asked for, each entry what was given in its turn. Assumes nothing.
use Rattle.std.specs.Prelude.{Result}
use Prim.Native.Nat.{ℕ, zero, suc, ◌+◌, ◌<◌}
use mathlib.Core.Path.{◌≡◌, refl, ap, ◌∙◌}
use mathlib.Core.Bool.{Bool, true, false}
use mathlib.Core.List.{List, [], ◌∷◌, map}
use native.Mathlib.Omega.{arith}
use native.Mathlib.Nat.{not-suc-le-zero, le_of_suc-le-suc}
use lib.Dec.{leb}
use lib.ListN.{length, get_or}
use lib.Ieee.{Float}
use lib.Ieee.Scale.{finite}
use Rattle.numbers.specs.Floats.{all_finite}
use Rattle.numbers.specs.declared.Refusal.{Refusal}
use Rattle.numbers.specs.Outcome.{Outcome, refused, gave, bind, unless, needed_list_of, gather}
use Rattle.numbers.specs.Refusals.{Filled}

pub gave_same : {A : Type 0} {a b : A} → gave a ≡ gave b → a ≡ b
gave_same e = cc

pub never_given : {A : Type 0} {n : ℕ} {a : A} → refused n ≡ gave a → ⊥
never_given e = let z : ◌≡◌ {A = ℕ} 0 1 = cc in omega arith

-- ---- behind a test
pub record Passed {A : Type 0} (t : Bool) (o : Outcome A) (a : A) : Type 0 where
  pub test : t ≡ true
  pub rest : o ≡ gave a

pub unless_given : {A : Type 0} {a : A} (t : Bool) (n : ℕ) (o : Outcome A) → unless t n o ≡ gave a → Passed t o a
unless_given true n o e = record { test = refl; rest = e }
unless_given false n o e = absurd (never_given e)

-- a finished list is the list itself
pub needed_list_given : (l m : List Float) (room : ℕ) → needed_list_of l room ≡ gave m → Passed (all_finite l) (gave l) m
needed_list_given l m room e = unless_given (all_finite l) 9 (gave l) (unless_given (leb (length l) room) 15 (unless (all_finite l) 9 (gave l)) e).rest

-- ---- in a chain
pub record Linked {A B : Type 0} (o : Outcome A) (k : A → Outcome B) (b : B) : Type 0 where
  pub value : A
  pub given : o ≡ gave value
  pub rest : k value ≡ gave b

pub bind_given : {A B : Type 0} {b : B} (o : Outcome A) (k : A → Outcome B) → bind o k ≡ gave b → Linked o k b
bind_given (refused n) k e = absurd (never_given e)
bind_given (gave a) k e = record { value = a; given = refl; rest = e }

-- a chain whose last leaf writes the list
pub filled_next : {A B : Type 0} {a : A} {o : Outcome A} {n : ℕ} {r : Result Unit Refusal} {w w' : List B} (k : A → Outcome (List B)) → gave a ≡ o → Filled (k a) n r w w' → Filled (bind o k) n r w w'
filled_next k e f = rw (← e) f

-- ---- in a list: its first entry, and the list of the turns after it
record Turn {A : Type 0} (o : Outcome A) (q : Outcome (List A)) (l : List A) : Type 0 where
  head : A
  tail : List A
  given : o ≡ gave head
  rest : q ≡ gave tail
  both : head ∷ tail ≡ l

turn : {A : Type 0} (o : Outcome A) (q : Outcome (List A)) (l : List A) → bind o (λ a. bind q (λ t. gave (a ∷ t))) ≡ gave l → Turn o q l
turn o q l e =
    let h = bind_given o (λ a. bind q (λ t. gave (a ∷ t))) e in
    let t = bind_given q (λ t. gave (h.value ∷ t)) h.rest in
    record { head = h.value; tail = t.value; given = h.given; rest = t.given; both = gave_same t.rest }

pub gather-length : {A : Type 0} (g : ℕ → Outcome A) (n i : ℕ) (l : List A) → gather g n i ≡ gave l → length l ≡ n
unfolding gather
gather-length g zero i l e = let z : [] ≡ l = gave_same e in rw (← z)
gather-length g (suc n) i l e =
    let t = turn (g i) (gather g n (i + 1)) l e in
    rw (← t.both) (ap suc (gather-length g n (i + 1) t.tail t.rest))

pub gather-at : {A : Type 0} (g : ℕ → Outcome A) (n i : ℕ) (l : List A) (k : ℕ) (d : A) → gather g n i ≡ gave l → k < n → g (i + k) ≡ gave (get_or l k d)
unfolding gather
gather-at g zero i l k d e h = absurd (not-suc-le-zero h)
gather-at g (suc n) i l zero d e h =
    let t = turn (g i) (gather g n (i + 1)) l e in
    let z : i + 0 ≡ i = omega arith in
    rw (← t.both) (ap g z ∙ t.given)
gather-at g (suc n) i l (suc k) d e h =
    let t = turn (g i) (gather g n (i + 1)) l e in
    let z : i + suc k ≡ i + 1 + k = omega arith in
    rw (← t.both) (ap g z ∙ gather-at g n (i + 1) t.tail k d t.rest (le_of_suc-le-suc h))

-- every entry is finite where each that can be given is
pub gather_finite : (g : ℕ → Outcome Float) → ((j : ℕ) (y : Float) → g j ≡ gave y → finite y ≡ true) → (n i : ℕ) (l : List Float) → gather g n i ≡ gave l → all_finite l ≡ true
unfolding gather all_finite
gather_finite g f zero i l e = let z : [] ≡ l = gave_same e in rw (← z)
gather_finite g f (suc n) i l e =
    let t = turn (g i) (gather g n (i + 1)) l e in
    rw (← t.both, f i t.head t.given) (gather_finite g f n (i + 1) t.tail t.rest)

both-map :
    {A B : Type 0} (h : A → B) (o : Outcome A) (q : Outcome (List A))
    → bind (bind o (λ x. gave (h x))) (λ a. bind (bind q (λ l. gave (map h l))) (λ l. gave (a ∷ l))) ≡ bind (bind o (λ a. bind q (λ l. gave (a ∷ l)))) (λ l. gave (map h l))
both-map h (refused n) q = refl
both-map h (gave a) (refused n) = refl
both-map h (gave a) (gave l) = refl

-- what is done with each entry by itself may be done after all are gathered
pub gather-map : {A B : Type 0} (g : ℕ → Outcome A) (h : A → B) (n i : ℕ) → gather (λ j. bind (g j) (λ x. gave (h x))) n i ≡ bind (gather g n i) (λ l. gave (map h l))
unfolding gather
gather-map g h zero i = refl
gather-map g h (suc n) i = rw (gather-map g h n (i + 1)) (both-map h (g i) (gather g n (i + 1)))
