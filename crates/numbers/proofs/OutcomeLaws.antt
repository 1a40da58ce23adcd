-- Outcomes in the proofs of code: what a match on an answer tells is an outcome, a return in a chain of binds, and a loop
-- that stops at the first refusal. `chains` is the ruleset for `search`. Assumes nothing.
use Rattle.std.specs.Prelude.{Result, Ok, Err}
use Prim.Native.Nat.{ℕ, suc, ◌+◌, ◌-◌, ◌<◌, ◌≤◌}
use mathlib.Core.Path.{◌≡◌, refl, sym, ap, ◌∙◌}
use mathlib.Core.List.{List, [], ◌∷◌, ◌++◌, append_assoc, append-nil}
use native.Mathlib.Omega.{arith}
use native.Mathlib.Numerals.{add-one}
use lib.Ieee.{Float}
use native.Mathlib.Nat.{sub-zero}
use lib.ListN.{length, get_or, set, take, drop, drop_of_length-le, length-append}
use lib.Seq.{drop-cons, take_at, take_all, take-suc-set}
use borrow.Author.Rules.{rules}
use Rattle.numbers.specs.declared.Refusal.{Refusal}
use Rattle.numbers.specs.Outcome.{Outcome, refused, gave, bind, sweep, gather, fill}
use Rattle.numbers.specs.Refusals.{refusal_number, outcome_of, verdict_of, count_of, few, Filled, Wrote, Answers}

-- ---- a return: what was given so far, and what follows; or the refusal
pub bind_next : {A B : Type 0} {a : A} {o : Outcome A} {z : Outcome B} (k : A → Outcome B) → gave a ≡ o → z ≡ k a → z ≡ bind o k
bind_next k e h = rw (← e) h

pub bind_stop : {A B : Type 0} {n : ℕ} {o : Outcome A} (k : A → Outcome B) → refused n ≡ o → refused n ≡ bind o k
bind_stop k e = rw (← e)

-- ---- what a leaf that writes a list returns: a refusal with the lent list as it was, or the list at its front
pub fills_none : {A : Type 0} {o : Outcome (List A)} {n : ℕ} {q : Refusal} {w : List A} → refused (refusal_number q) ≡ o → Filled o n (Err q) w w
fills_none {A} {o} {n} {q} {w} e = record { is = e; out = rw (← e) }

pub fills : {A : Type 0} {o : Outcome (List A)} {n : ℕ} {w w' : List A} (l : List A) → gave l ≡ o → length l ≡ n → w' ≡ l ++ drop (length l) w → Filled o n (Ok tt) w w'
fills {A} {o} {n} {w} {w'} l e h k =
    record {
      is = let z : take n w' ≡ l = rw k (take_at l (drop (length l) w) n h) in rw z e;
      out = rw (← e) k;
    }

pub writes_none : {A : Type 0} {o : Outcome (List A)} {q : Refusal} {w : List A} → refused (refusal_number q) ≡ o → Wrote o (Err q) w w
writes_none {A} {o} {q} {w} e = record { is = e; out = rw (← e); room = omega arith }

pub writes : {A : Type 0} {o : Outcome (List A)} {n : ℕ} {w w' : List A} (l : List A) → gave l ≡ o → length l ≡ n → w' ≡ l ++ drop (length l) w → Wrote o (Ok n) w w'
writes {A} {o} {n} {w} {w'} l e h k =
    record {
      is = let z : take n w' ≡ l = rw k (take_at l (drop (length l) w) n h) in rw z e;
      out = rw (← e) k;
      room = rw k (omega (arith, length-append l (drop (length l) w), h));
    }

-- the count of what is written, worked out
pub filled_count : {A : Type 0} {o : Outcome (List A)} {m n : ℕ} {r : Result Unit Refusal} {w w' : List A} → m ≡ n → Filled o m r w w' → Filled o n r w w'
filled_count e f = rw e at f

-- ---- what a leaf that answers a verdict beside a value returns
pub answers_none : {A : Type 0} {none : A} {o : Outcome A} {q : Refusal} → refused (refusal_number q) ≡ o → Answers none o (Err q) none
answers_none e = record { is = e; value = rw (← e) }

pub answers : {A : Type 0} {none a : A} {o : Outcome A} → gave a ≡ o → Answers none o (Ok tt) a
answers e = record { is = e; value = rw (← e) }

-- ---- a verdict beside another value, or beside none
pub verdict_map : {A B : Type 0} (h : A → B) (r : Result Unit Refusal) (a : A) → verdict_of r (h a) ≡ bind (verdict_of r a) (λ z. gave (h z))
verdict_map h (Ok tt) a = refl
verdict_map h (Err q) a = refl

pub verdict_alone : {A : Type 0} {o : Outcome A} (r : Result Unit Refusal) (a : A) → verdict_of r a ≡ o → verdict_of r (tt {0}) ≡ bind o (λ z. gave tt)
verdict_alone r a e = rw (← e) (verdict_map (λ z. tt) r a)

pub bind-map : {A B C : Type 0} (o : Outcome A) (h : A → B) (c : C) → bind (bind o (λ a. gave (h a))) (λ b. gave c) ≡ bind o (λ a. gave c)
bind-map (refused n) h c = refl
bind-map (gave a) h c = refl

-- ---- an answer's case, as a match finds it
module _ {o : Outcome Float} {r : Result Float Refusal} (a : outcome_of r ≡ o) where
  pub value_is : {x : Float} → r ≡ Ok x → gave x ≡ o
  value_is e = rw e at a

  pub value_refused : {q : Refusal} → r ≡ Err q → refused (refusal_number q) ≡ o
  value_refused e = rw e at a

module _ {A : Type 0} {o : Outcome A} {r : Result Unit Refusal} (x : A) (a : verdict_of r x ≡ o) where
  pub taken_is : r ≡ (Ok tt) → gave x ≡ o
  taken_is e = rw e at a

  pub taken_refused : {q : Refusal} → r ≡ Err q → refused (refusal_number q) ≡ o
  taken_refused e = rw e at a

module _ {A : Type 0} {o : Outcome (List A)} {n : ℕ} {r : Result Unit Refusal} {w w' : List A} (a : Filled o n r w w') where
  pub filled_is : (m : ℕ) → n ≡ m → r ≡ (Ok tt) → gave (take m w') ≡ o
  filled_is m e h = let k : verdict_of r (take n w') ≡ o = a.is in rw (← e) (rw h at k)

  pub filled_refused : {q : Refusal} → r ≡ Err q → refused (refusal_number q) ≡ o
  filled_refused e = let k : verdict_of r (take n w') ≡ o = a.is in rw e at k

-- a list that is filled whole, m of them
module _ {A : Type 0} {n : ℕ} {r : Result Unit Refusal} {w w' : List A} (o : ℕ → Outcome (List A)) (m : ℕ) (a : Filled (o (length w)) n r w w') (long : length w ≡ m) where
  pub whole_is : n ≡ m → length w' ≡ length w → r ≡ (Ok tt) → gave w' ≡ o m
  whole_is e h t =
      let k : length w' ≤ m = omega (arith, long, h) in
      ap (λ z. gave z) (sym (take_all m w' k)) ∙ filled_is a m e t ∙ ap o long

  pub whole_refused : {q : Refusal} → r ≡ Err q → refused (refusal_number q) ≡ o m
  whole_refused t = filled_refused a t ∙ ap o long

module _ {A : Type 0} {o : Outcome (List A)} {r : Result ℕ Refusal} {w w' : List A} (a : Wrote o r w w') where
  pub count_is : {n : ℕ} → r ≡ Ok n → gave (take n w') ≡ o
  count_is e = let k : count_of r w' ≡ o = a.is in rw e at k

  pub count_refused : {q : Refusal} → r ≡ Err q → refused (refusal_number q) ≡ o
  count_refused e = let k : count_of r w' ≡ o = a.is in rw e at k

  pub count_room : {n : ℕ} → r ≡ Ok n → n ≤ length w'
  count_room e = let k : few r ≤ length w' = a.room in rw e at k

pub ruleset chains = (rules, bind_next, bind_stop, value_is, value_refused, taken_is, taken_refused, filled_is, filled_refused, count_is, count_refused)

-- ---- a sweep in progress: what is left from i on, from the state s, gives r
pub record Sweeping {A S : Type 0} (f : A → S → Outcome S) (xs : List A) (i : ℕ) (s : S) (r : Outcome S) : Type 0 where
  pub within : i ≤ length xs
  pub rest : sweep f (drop i xs) s ≡ r

pub sweeps_start : {A S : Type 0} {f : A → S → Outcome S} {xs : List A} {s : S} → Sweeping f xs 0 s (sweep f xs s)
sweeps_start = record { within = omega arith; rest = refl }

module _ {A S : Type 0} {f : A → S → Outcome S} {xs : List A} {i : ℕ} {s : S} {r : Outcome S} (d : A) where
  pub sweeps_next : {t : S} → Sweeping f xs i s r → i < length xs → gave t ≡ f (get_or xs i d) s → Sweeping f xs (i + 1) t r
  unfolding sweep
  sweeps_next {t} a h e = record { within = omega arith; rest = rw add-one (rw (drop-cons xs i d h, ← e) at a.rest) }

  pub sweeps_stop : {n : ℕ} → Sweeping f xs i s r → i < length xs → refused n ≡ f (get_or xs i d) s → refused n ≡ r
  unfolding sweep
  sweeps_stop {n} a h e = rw (drop-cons xs i d h, ← e) at a.rest

pub sweeps_end : {A S : Type 0} {f : A → S → Outcome S} {xs : List A} {i : ℕ} {s : S} {r : Outcome S} → Sweeping f xs i s r → length xs ≤ i → gave s ≡ r
unfolding sweep
sweeps_end {A} {S} {f} {xs} {i} {s} {r} a h = rw (drop_of_length-le xs {i = i} h) at a.rest

-- ---- a list being gathered at the front of a buffer: what is there up to i, and what is still to come, give r
pub record Gathering {A : Type 0} (g : ℕ → Outcome A) (n i : ℕ) (buffer : List A) (r : Outcome (List A)) : Type 0 where
  pub within : i ≤ n
  pub rest : bind (gather g (n - i) i) (λ l. gave (take i buffer ++ l)) ≡ r

bind_gave : {A : Type 0} (o : Outcome A) → bind o (λ a. gave a) ≡ o
bind_gave (refused n) = refl
bind_gave (gave a) = refl

-- a list with an entry in front of what comes, or behind what is there
bind_cons : {A : Type 0} (o : Outcome (List A)) (t : List A) (a : A) → bind (bind o (λ l. gave (a ∷ l))) (λ l. gave (t ++ l)) ≡ bind o (λ l. gave ((t ++ (a ∷ [])) ++ l))
bind_cons (refused n) t a = refl
bind_cons (gave l) t a = rw append_assoc

pub gather_start : {A : Type 0} {g : ℕ → Outcome A} {n : ℕ} {b : List A} → Gathering g n 0 b (gather g n 0)
gather_start {A} {g} {n} {b} = record { within = omega arith; rest = rw sub-zero (bind_gave (gather g n 0)) }

module _ {A : Type 0} {g : ℕ → Outcome A} {n i : ℕ} {b : List A} {r : Outcome (List A)} where
  pub gather_next : {a : A} → Gathering g n i b r → i < n → i < length b → gave a ≡ g i → Gathering g n (i + 1) (set b i a) r
  unfolding gather
  gather_next {a} q h l e =
      let k : n - i ≡ suc (n - (i + 1)) = omega arith in
      record {
        within = omega arith;
        rest = rw (add-one, take-suc-set b i a l) (sym (bind_cons (gather g (n - suc i) (suc i)) (take i b) a) ∙ (rw (k, ← e, add-one) at q.rest));
      }

  pub gather_stop : {m : ℕ} → Gathering g n i b r → i < n → refused m ≡ g i → refused m ≡ r
  unfolding gather
  gather_stop {m} q h e = let k : n - i ≡ suc (n - (i + 1)) = omega arith in rw (k, ← e) at q.rest

  pub gather_end : Gathering g n i b r → n ≤ i → gave (take i b) ≡ r
  unfolding gather
  gather_end q h = let k : n - i ≡ 0 = omega arith in rw (k, append-nil) at q.rest

-- ---- a list being filled in place: what is still to come leaves r
pub record Filling {A : Type 0} (g : ℕ → Outcome A) (n i : ℕ) (w r : List A) : Type 0 where
  pub rest : fill g (n - i) i w ≡ r

pub fill_start : {A : Type 0} {g : ℕ → Outcome A} {n : ℕ} {w : List A} → Filling g n 0 w (fill g n 0 w)
fill_start {A} {g} {n} {w} = record { rest = rw sub-zero refl }

module _ {A : Type 0} {g : ℕ → Outcome A} {n i : ℕ} {w r : List A} where
  pub fill_next : {a : A} → Filling g n i w r → i < n → gave a ≡ g i → Filling g n (i + 1) (set w i a) r
  unfolding fill
  fill_next {a} q h e = let k : n - i ≡ suc (n - (i + 1)) = omega arith in record { rest = rw (k, ← e) at q.rest }

  pub fill_stop : {m : ℕ} → Filling g n i w r → i < n → refused m ≡ g i → w ≡ r
  unfolding fill
  fill_stop {m} q h e = let k : n - i ≡ suc (n - (i + 1)) = omega arith in rw (k, ← e) at q.rest

  pub fill_end : Filling g n i w r → n ≤ i → w ≡ r
  unfolding fill
  fill_end q h = let k : n - i ≡ 0 = omega arith in rw k at q.rest
