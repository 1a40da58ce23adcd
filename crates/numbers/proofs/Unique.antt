-- No second answer fits: an answer is settled by its outcome, as a refusal is by its number. So a contract
-- `outcome_of r ≡ o`, `Filled o n r w w'`, `Wrote o r w w'` or `Answers none o v a` has one answer, and one that says `r ≡ o` of a plain value has one by itself.
-- Assumes nothing.
use Rattle.std.specs.Prelude.{Result, Ok, Err}
use Prim.Native.Nat.{ℕ, ◌≤◌}
use mathlib.Core.Path.{◌≡◌, refl, sym, ap, ◌∙◌}
use mathlib.Core.List.{List, [], ◌∷◌}
use native.Mathlib.Omega.{arith}
use lib.ListN.{length, get_or, take}
use lib.Seq.{length-take-le}
use Rattle.numbers.specs.declared.Refusal.{Refusal}
use Rattle.numbers.specs.declared.Refusal.TheVariants as why
use Rattle.numbers.specs.Outcome.{Outcome, refused, gave}
use Rattle.numbers.specs.Refusals.{refusal_number, outcome_of, verdict_of, count_of, few, Filled, Wrote, Answers}

-- the refusals by their number
abbrev refusals : List Refusal
refusals =
    why.Lists ∷ why.Room ∷ why.Slot ∷ why.State ∷ why.Words ∷ why.Request ∷ why.Bands ∷ why.Response ∷ why.Edges ∷ why.NotFinite
    ∷ why.Derivative ∷ why.Balancing ∷ why.Roots ∷ why.Extrema ∷ why.Layout ∷ why.Lists ∷ []

abbrev refusal_at : ℕ → Refusal
refusal_at n = get_or refusals n why.Lists

refusal_back : (r : Refusal) → refusal_at (refusal_number r) ≡ r
refusal_back why.Room = refl
refusal_back why.Slot = refl
refusal_back why.State = refl
refusal_back why.Words = refl
refusal_back why.Request = refl
refusal_back why.Bands = refl
refusal_back why.Response = refl
refusal_back why.Edges = refl
refusal_back why.NotFinite = refl
refusal_back why.Derivative = refl
refusal_back why.Balancing = refl
refusal_back why.Roots = refl
refusal_back why.Extrema = refl
refusal_back why.Layout = refl
refusal_back why.Lists = refl

pub refusal_unique : (a b : Refusal) → refusal_number a ≡ refusal_number b → a ≡ b
refusal_unique a b e = sym (refusal_back a) ∙ ap refusal_at e ∙ refusal_back b

-- the answer of an outcome, whatever it gives
abbrev outcome_at : {A : Type 0} → Outcome A → Result A Refusal
outcome_at (gave a) = Ok a
outcome_at (refused n) = Err (refusal_at n)

outcome_back : {A : Type 0} (r : Result A Refusal) → outcome_at (outcome_of r) ≡ r
outcome_back (Ok a) = refl
outcome_back (Err q) = ap Err (refusal_back q)

pub outcome_unique : {A : Type 0} (a b : Result A Refusal) → outcome_of a ≡ outcome_of b → a ≡ b
outcome_unique a b e = sym (outcome_back a) ∙ ap outcome_at e ∙ outcome_back b

pub verdict_unique : {A : Type 0} (a b : Result Unit Refusal) (x y : A) → verdict_of a x ≡ verdict_of b y → a ≡ b
verdict_unique (Ok p) (Ok q) x y e = refl
verdict_unique (Ok p) (Err q) x y e = absurd (let z : ◌≡◌ {A = ℕ} 0 1 = cc in omega arith)
verdict_unique (Err q) (Ok p) x y e = absurd (let z : ◌≡◌ {A = ℕ} 0 1 = cc in omega arith)
verdict_unique (Err p) (Err q) x y e = ap Err (refusal_unique p q (cc))

-- what a leaf answers and writes is settled by its outcome and the lent list
pub filled_unique : {A : Type 0} {o : Outcome (List A)} {n : ℕ} {a b : Result Unit Refusal} {w u v : List A} → Filled o n a w u → Filled o n b w v → (a ≡ b) × (u ≡ v)
filled_unique {A} {o} {n} {a} {b} {w} {u} {v} f g = (verdict_unique a b (take n u) (take n v) (f.is ∙ sym g.is), f.out ∙ sym g.out)

count_unique : {A : Type 0} (a b : Result ℕ Refusal) (l : List A) → few a ≤ length l → few b ≤ length l → count_of a l ≡ count_of b l → a ≡ b
count_unique (Ok m) (Ok n) l p q e =
    let k : take m l ≡ take n l = cc in
    let z : m ≡ n = sym (length-take-le m l p) ∙ ap length k ∙ length-take-le n l q in
    ap Ok z
count_unique (Ok m) (Err r) l p q e = absurd (let z : ◌≡◌ {A = ℕ} 0 1 = cc in omega arith)
count_unique (Err r) (Ok n) l p q e = absurd (let z : ◌≡◌ {A = ℕ} 0 1 = cc in omega arith)
count_unique (Err r) (Err s) l p q e = ap Err (refusal_unique r s (cc))

pub wrote_unique : {A : Type 0} {o : Outcome (List A)} {a b : Result ℕ Refusal} {w u v : List A} → Wrote o a w u → Wrote o b w v → (a ≡ b) × (u ≡ v)
wrote_unique {A} {o} {a} {b} {w} {u} {v} f g =
    let e : u ≡ v = f.out ∙ sym g.out in
    (count_unique a b v (rw e at f.room) g.room (rw e at f.is ∙ sym g.is), e)

pub answers_unique : {A : Type 0} {none : A} {o : Outcome A} {u v : Result Unit Refusal} {a b : A} → Answers none o u a → Answers none o v b → (u ≡ v) × (a ≡ b)
answers_unique {A} {none} {o} {u} {v} {a} {b} f g = (verdict_unique u v a b (f.is ∙ sym g.is), f.value ∙ sym g.value)
