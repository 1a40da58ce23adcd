-- `fields::interpolant::is_falling` meets its contract. Assumes nothing.
use Rattle.std.proofs.Common.{rules}
use Rattle.std.proofs.lemmas.List.Sorted.{answers_always}
use lib.Ieee.{nan, lt}
use Rattle.fields.specs.Interpolant.{falling}
use Rattle.fields.proofs.EveryLaws.{every_neighbour}
use Rattle.fields.proofs.interpolant.is_falling.Goals as goal

pub returns : goal.returns
unfolding falling
returns c = every_neighbour (λ a b. lt b a) nan _ _ (c.is_sorted_by.ensures.cases (λ a b. lt b a) (answers_always _ _ _ (λ f a r f' k. search rules)))
