-- `numbers::to_word` meets its contract. Assumes nothing.
use Rattle.numbers.proofs.WordLaws.{word_of_nan, no_nan, word_of_number}
use Rattle.numbers.proofs.to_word.Goals as goal

pub returns-then-x : goal.returns-then-x
returns-then-x c = word_of_nan _ c.if-x.true

pub float_to_bits-result : goal.float_to_bits-result
float_to_bits-result c = no_nan _ c.if-x.false

pub returns : goal.returns
returns c = word_of_number _ c.if-x.false
