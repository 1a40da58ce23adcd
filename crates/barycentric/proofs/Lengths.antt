-- How long the lists are that the leaves give. Assumes nothing.
use mathlib.Core.Path.{◌≡◌}
use mathlib.Core.List.{List}
use lib.ListN.{length, get_or}
use lib.Ieee.{Float, nan}
use Rattle.numbers.proofs.LoopLaws.{length-tab}
use Rattle.barycentric.specs.Weights.{weight, weights_of}
use Rattle.barycentric.specs.Abscissas.{abscissa, abscissas_of}
use Rattle.barycentric.specs.Response.{response_of, responses_of}

pub weights-length : (x : List Float) → length (weights_of x) ≡ length x
unfolding weights_of
weights-length x = length-tab (weight x) (length x) 0

pub abscissas_length : (delta : Float) (d v : List Float) → length (abscissas_of delta d v) ≡ length d
unfolding abscissas_of
abscissas_length delta d v = length-tab (abscissa delta d v) (length d) 0

pub responses_length : (places x w y : List Float) → length (responses_of places x w y) ≡ length places
unfolding responses_of
responses_length places x w y = length-tab (λ i. response_of (get_or places i nan) x w y) (length places) 0
