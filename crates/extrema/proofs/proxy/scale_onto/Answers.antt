-- `extrema::proxy::scale_onto` meets its contract. Assumes nothing.
use Rattle.numbers.proofs.LoopLaws.{loops}
use Rattle.barycentric.proofs.LaneLaws.{fill_whole}
use borrow.Author.Rules.{rules}
use Rattle.extrema.proofs.proxy.scale_onto.Goals as goal

pub loop-i-init : goal.loop-i-init
loop-i-init c = (search rules, fill_whole _ _ _ (search rules))

pub loop-i-preserved : goal.loop-i-preserved
loop-i-preserved c = search loops

pub returns : goal.returns
returns c = search loops
