-- Fields as a program holds them, and fields that differ only in what no job reads.
use Rattle.std.specs.Prelude.{ℕ, ◌<◌, ◌≡◌, T, length, take, get_or}
use Rattle.std.specs.Float.{nan, binary64}
use Rattle.std.specs.Float.Ieee.{fits}
use Rattle.bands.specs.declared.Value.{Value}
use Rattle.bands.specs.declared.Value.TheVariants.{Constant, Linear}
use Rattle.bands.specs.declared.Band.{Band}
use Rattle.bands.specs.Lookup.{band_of}
use Rattle.fields.specs.declared.held.Fields.{Fields}
use Rattle.packing.specs.Packing.{points_held}

-- every number is one of binary64, as each of a program's is, and the points are an array of 65
abbrev pub ValueFits : Value → Type 0
ValueFits (Constant a) = T (fits binary64 a)
ValueFits (Linear a b) = T (fits binary64 a) × T (fits binary64 b)

pub record BandFits (b : Band) : Type 0 where
  pub begin : T (fits binary64 b.begin)
  pub end : T (fits binary64 b.end)
  pub desired : ValueFits b.desired
  pub weight : ValueFits b.weight

pub record Stored (j : Fields) : Type 0 where
  pub threshold : T (fits binary64 j.request.threshold)
  pub flatness : T (fits binary64 j.flatness)
  pub bands : (i : ℕ) → i < 8 → BandFits (band_of j.request.plan i)
  pub points : (i : ℕ) → i < 65 → T (fits binary64 (get_or j.points i nan))
  pub room : length j.points ≡ 65

-- the same but for the bands beyond the count and the points beyond those that are held
pub record Alike (j k : Fields) : Type 0 where
  pub taps : j.request.taps ≡ k.request.taps
  pub symmetry : j.request.symmetry ≡ k.request.symmetry
  pub degree : j.request.degree ≡ k.request.degree
  pub exchanges : j.request.exchanges ≡ k.request.exchanges
  pub threshold : j.request.threshold ≡ k.request.threshold
  pub count : j.request.plan.count ≡ k.request.plan.count
  pub bands : (i : ℕ) → i < k.request.plan.count → band_of j.request.plan i ≡ band_of k.request.plan i
  pub made : j.made ≡ k.made
  pub flatness : j.flatness ≡ k.flatness
  pub points : take (points_held k) j.points ≡ take (points_held k) k.points
