-- The bands in x = cos f, which falls: the last band comes first, and its end gives its begin.
use Rattle.std.specs.Prelude.{◌-◌}
use Rattle.numbers.specs.Outcome.{Outcome, gave, bind, gather}
use Rattle.angles.specs.Turns.{cosine_of}
use Rattle.fir_types.specs.declared.edges.Interval.{Interval}
use Rattle.fir_types.specs.Edges.{Edges}
use Rattle.fir_types.specs.Edges.{interval, packed}
use Rattle.subdivision.specs.First.{band_of}

abbrev pub band_in_x : Interval → Outcome Interval
band_in_x b = bind (cosine_of b.end) (λ low. bind (cosine_of b.begin) (λ high. gave (interval low high)))

unfoldable pub bands_in_x : Edges → Outcome Edges
bands_in_x e = bind (gather (λ i. band_in_x (band_of e (e.count - 1 - i))) e.count 0) (λ l. gave (packed l))
