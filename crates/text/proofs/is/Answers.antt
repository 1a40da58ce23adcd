-- `text::is` meets its contract. Assumes nothing.
use Rattle.text.proofs.Comparing.{same_pointwise}
use Rattle.text.proofs.is.Goals as goal

pub returns : goal.returns
returns c = rw (c.eq.ensures, c.part.ensures, same_pointwise)
