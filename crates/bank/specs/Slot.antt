-- A slot's words: the state, the failure number, and what the job's image holds (document 01); the rest are zero. All zero is an empty slot.
use Rattle.std.specs.Prelude.{ℕ, ◌-◌, Bool, true, false, ◌&&◌, cond, List, ◌∷◌, ◌++◌, eqb, length, get_or, drop, replicate}
use Rattle.numbers.specs.Outcome.{Outcome, refused, gave}
use Rattle.packing.specs.Packing.{words_of, fields_of}
use Rattle.exchange.specs.Job.{Standing, running, done, failed, Held, held, job_for}
use Rattle.bank.specs.Sizes.{all_zero, same}

abbrev pub state_word : Standing → ℕ
state_word running = 1
state_word done = 2
state_word (failed n) = 3

-- 0 unless failed
abbrev pub failure_word : Standing → ℕ
failure_word running = 0
failure_word done = 0
failure_word (failed n) = n

-- a job's words, n in all
unfoldable pub slot_words : ℕ → Held → List ℕ
slot_words n j = state_word j.standing ∷ failure_word j.standing ∷ (words_of j.fields ++ replicate (n - 139) 0)

-- what words hold, whatever they are
abbrev pub standing_in : ℕ → ℕ → Standing
standing_in state failure = cond (eqb state 1) running (cond (eqb state 2) done (failed failure))

abbrev pub held_in : List ℕ → Held
held_in ws = held (fields_of (drop 2 ws)) (standing_in (get_or ws 0 0) (get_or ws 1 0))

abbrev pub is_given : {A : Type 0} → Outcome A → Bool
is_given (refused n) = false
is_given (gave a) = true

-- a job exactly when restoring would accept those fields, the state agrees, and packing them gives the same words
unfoldable pub is_job : List ℕ → Bool
is_job ws = is_given (job_for (held_in ws)) && same (slot_words (length ws) (held_in ws)) ws

pub data Loaded : Type 0 where
  empty : Loaded
  broken : Loaded
  holds : Held → Loaded

unfoldable pub load_of : List ℕ → Loaded
load_of ws = cond (all_zero ws) empty (cond (is_job ws) (holds (held_in ws)) broken)
