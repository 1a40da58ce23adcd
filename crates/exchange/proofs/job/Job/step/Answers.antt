-- `exchange::job::Job::step` meets its contract. Assumes nothing.
use mathlib.Core.Path.{◌≡◌, sym, ◌∙◌}
use native.Mathlib.Omega.{arith}
use lib.ListN.{length}
use lib.Seq.{length-take-le}
use Rattle.extrema.proofs.ExtremaLaws.{kept_words, wiped_words}
use Rattle.exchange.proofs.StepLaws.{step_short, step_words}
use Rattle.exchange.proofs.job.Job.step.Goals as goal

pub returns-then-scratch-lt-WORDS : goal.returns-then-scratch-lt-WORDS
returns-then-scratch-lt-WORDS c = record { is = sym (step_short _ _ c.if-scratch-lt-WORDS.true); words = kept_words 2482 _ _ c.if-scratch-lt-WORDS.true }

pub returns : goal.returns
returns c =
    let w = c.args.scratch.now in
    let l = length-take-le 2482 w (omega arith) in
    let worked : length c.step_in-answer.new.words ≡ 2482 = c.step_in-answer.auto.words ∙ l in
    record {
      is = c.step_in-answer.ensures ∙ step_words _ _ (length w) (omega (arith, l)) (omega arith);
      words = wiped_words 2482 w _ (omega arith) (rw worked at c.wipe.ensures);
    }
