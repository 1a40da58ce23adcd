-- `fields::interpolant::radians_of` meets its contract. Assumes nothing.
use Rattle.std.proofs.Common.{rules}
use lib.Ieee.{nan}
use Rattle.fir_types.specs.Edges.{interval, in_radians}
use Rattle.fields.proofs.ArrayLaws.{mapped_is}
use Rattle.fields.proofs.interpolant.radians_of.Goals as goal

pub returns : goal.returns
returns c = rw (mapped_is in_radians (interval nan nan) c.map.ensures.items (search rules) (λ x y q h. search rules))
