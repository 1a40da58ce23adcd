-- What a computation gives: a refusal by its number in document 01, or an answer. In a chain of binds the order of the
-- work is the order on the page, and the first refusal is the outcome.
use Rattle.std.specs.Prelude.{ℕ, zero, suc, ◌+◌, Bool, true, false, List, [], ◌∷◌, Float, leb, length, set}
use Rattle.std.specs.Float.Ieee.Scale.{finite}
use Rattle.numbers.specs.Floats.{all_finite}

pub data Outcome (A : Type 0) : Type 0 where
  refused : ℕ → Outcome A
  gave : A → Outcome A

-- what follows is done with what was given; a refusal stays
abbrev pub bind : {A B : Type 0} → Outcome A → (A → Outcome B) → Outcome B
bind (refused n) k = refused n
bind (gave a) k = k a

-- refusal n unless the test holds
abbrev pub unless : {A : Type 0} → Bool → ℕ → Outcome A → Outcome A
unless true n o = o
unless false n o = refused n

-- refusal 9: a needed number that is not finite
abbrev pub needed_of : Float → Outcome Float
needed_of x = unless (finite x) 9 (gave x)

-- a finished list for a lent one of that room: refusal 15 where it is too short, then 9 where a number is not finite
abbrev pub needed_list_of : List Float → ℕ → Outcome (List Float)
needed_list_of l room = unless (leb (length l) room) 15 (unless (all_finite l) 9 (gave l))

-- each entry of a list in turn, from state to state; the first refusal ends it
unfoldable pub sweep : {A S : Type 0} → (A → S → Outcome S) → List A → S → Outcome S
sweep f [] s = gave s
sweep f (x ∷ xs) s = bind (f x s) (sweep f xs)

-- what g gives at i, i + 1, .., n times, as a list; the first refusal ends it
unfoldable pub gather : {A : Type 0} → (ℕ → Outcome A) → ℕ → ℕ → Outcome (List A)
gather g zero i = gave []
gather g (suc n) i = bind (g i) (λ a. bind (gather g n (i + 1)) (λ l. gave (a ∷ l)))

-- what is done with what was given; where it was refused, b
abbrev pub given_to : {A B : Type 0} → Outcome A → (A → B) → B → B
given_to (refused n) k b = b
given_to (gave a) k b = k a

-- a list with what g gives at i, i + 1, .., n times, in those places; from the first refusal on it stays as it was
unfoldable pub fill : {A : Type 0} → (ℕ → Outcome A) → ℕ → ℕ → List A → List A
fill g zero i w = w
fill g (suc n) i w = given_to (g i) (λ a. fill g n (i + 1) (set w i a)) w
