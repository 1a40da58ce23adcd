-- The starred cases of document 01 hold, all of the list; each is computed. Assumes nothing.
use mathlib.Core.Path.{refl}
use lib.Ieee.{of_bits, neg, add, sub, mul, div, eq}
use Rattle.numbers.specs.Cases.{Agree, none, also}
use Rattle.numbers.specs.Floats.{all_finite}
use Rattle.numbers.specs.Loops.{run, until, strided, tab}
use Rattle.barycentric.specs.Weights.{lane, product, weights_of, weights_for}
use Rattle.barycentric.specs.Delta.{delta_sums, delta_for}
use Rattle.barycentric.specs.Abscissas.{abscissas_of, abscissas_for}
use Rattle.barycentric.specs.Response.{response_of, response_for}
use Rattle.barycentric.specs.Cases.{cases}

pub starred : Agree cases
unfolding weights_for weights_of product lane delta_for delta_sums abscissas_for abscissas_of response_for response_of all_finite run until strided tab of_bits neg add sub mul div eq
starred = also refl (also refl (also refl (also refl none)))
