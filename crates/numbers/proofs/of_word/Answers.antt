-- `numbers::of_word` meets its contract. Assumes nothing.
use Rattle.numbers.proofs.WordLaws.{nan_word, no_nan_word, number_word}
use Rattle.numbers.proofs.of_word.Goals as goal

pub returns-then-w-gt9218868437227405312 : goal.returns-then-w-gt9218868437227405312
returns-then-w-gt9218868437227405312 c = nan_word _ c.if-w-gt9218868437227405312.true

pub float_from_bits-result : goal.float_from_bits-result
float_from_bits-result c = no_nan_word _ c.if-w-gt9218868437227405312.false

pub returns : goal.returns
returns c = number_word _ c.if-w-gt9218868437227405312.false
