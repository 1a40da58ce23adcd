-- What a slot's words hold, before it is asked whether that is a job: a job judges itself (4), so that nothing is accepted twice.
use Rattle.std.specs.Prelude.{ℕ, ◌≡◌, ◌&&◌, cond, List, eqb, leb, length, get_or, drop}
use Rattle.numbers.specs.Outcome.{Outcome, refused, gave}
use Rattle.packing.specs.Packing.{fields_of}
use Rattle.exchange.specs.Job.{Standing, running, done, failed, Held, held, held_of, job_for}
use Rattle.bank.specs.declared.slot.Content.{Content}
use Rattle.bank.specs.declared.slot.Content.TheVariants as content
use Rattle.bank.specs.Sizes.{all_zero, same}
use Rattle.bank.specs.Slot.{slot_words, is_given, Loaded, empty, broken, holds}

-- a number that no step is refused with stands as 1, which no job has
abbrev pub named : ℕ → ℕ
named n = cond (leb 9 n && leb n 13) n 1

abbrev pub standing_near : ℕ → ℕ → Standing
standing_near state failure = cond (eqb state 1) running (cond (eqb state 2) done (failed (named failure)))

abbrev pub near_in : List ℕ → Held
near_in ws = held (fields_of (drop 2 ws)) (standing_near (get_or ws 0 0) (get_or ws 1 0))

-- empty, or words that packing gives again, or neither
unfoldable pub packed_of : List ℕ → Loaded
packed_of ws = cond (all_zero ws) empty (cond (same (slot_words (length ws) (near_in ws)) ws) (holds (near_in ws)) broken)

abbrev pub content_of : Content → Loaded
content_of content.Empty = empty
content_of content.Broken = broken
content_of (content.Holds j) = holds (held_of j)

-- what holds a job that is one, and else nothing
abbrev pub judged : Loaded → Loaded
judged empty = empty
judged broken = broken
judged (holds j) = cond (is_given (job_for j)) (holds j) broken

-- ---- what a call asks of a slot: to be empty, else 3 where it holds a job and 4 where it holds none; or to hold what may be a job, else
-- 3 where it is empty and 4 where it is broken
abbrev pub vacant_for : Loaded → Outcome (Unit {0})
vacant_for empty = gave tt
vacant_for broken = refused 4
vacant_for (holds j) = refused (cond (is_given (job_for j)) 3 4)

abbrev pub near_for : Loaded → Outcome Held
near_for empty = refused 3
near_for broken = refused 4
near_for (holds j) = gave j
