-- `extrema::find_extrema` meets its contract. Assumes nothing.
use mathlib.Core.Path.{◌≡◌, ap, ◌∙◌}
use native.Mathlib.Omega.{arith}
use lib.ListN.{length}
use lib.Seq.{length-take-le}
use Rattle.numbers.specs.Outcome.{gave, bind}
use Rattle.extrema.specs.Extrema.{packed}
use Rattle.extrema.proofs.ExtremaLaws.{enough_words, wiped_words}
use Rattle.extrema.proofs.find_extrema.Goals as goal

pub returns : goal.returns
returns c =
    let l : length c.search-found.new.words ≡ 2482 = c.search-found.auto.words ∙ length-take-le 2482 c.args.words.now (omega arith) in
    record {
      kept = c.search-found.ensures ∙ ap (λ o. bind o (λ l. gave (packed l))) (enough_words _ _ _ _ _ (omega arith));
      words = wiped_words 2482 c.args.words.now _ (omega arith) (rw l at c.wipe.ensures);
    }
