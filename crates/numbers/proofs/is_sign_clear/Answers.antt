-- `numbers::is_sign_clear` meets its contract. Assumes nothing.
use Rattle.numbers.proofs.WordLaws.{sign_word}
use borrow.Author.Rules.{rules}
use Rattle.numbers.proofs.is_sign_clear.Goals as goal

pub returns : goal.returns
returns c = rw c.to_word.ensures (sign_word _ (search rules))
