-- Fields that are read from words hold numbers of binary64, whatever the words. Assumes nothing.
use Rattle.bands.specs.Numbered.{value_of}
use Prim.Native.Nat.{ℕ, ◌+◌}
use mathlib.Core.Path.{sym, subst}
use mathlib.Core.Bool.{Bool, true, false, cond}
use mathlib.Core.List.{List}
use lib.Dec.{T, eqb}
use lib.Ieee.{Float, nan, binary64, of_bits, fits}
use lib.Ieee.Bits.{of_bits-fits}
use Rattle.numbers.proofs.LoopLaws.{length-tab}
use Rattle.numbers.proofs.Lanes.{tab-get}
use Rattle.bands.specs.declared.Value.TheVariants.{Constant, Linear}
use Rattle.bands.specs.declared.Band.{Band}
use Rattle.bands.specs.Lookup.{no_band}
use Rattle.packing.specs.Packing.{at, number, threshold_at, flatness_at, band_at, point_at, band_in, fields_of}
use Rattle.packing.specs.Alike.{ValueFits, BandFits, Stored}

value_fits : (kind a b : ℕ) → ValueFits (value_of kind (of_bits binary64 a) (of_bits binary64 b))
value_fits kind a b = go (eqb kind 0)
  where
    go : (t : Bool) → ValueFits (cond t (Constant (of_bits binary64 a)) (Linear (of_bits binary64 a) (of_bits binary64 b)))
    go true = of_bits-fits binary64 a
    go false = (of_bits-fits binary64 a, of_bits-fits binary64 b)

band_fits : (w : List ℕ) (i : ℕ) → BandFits (band_in w i)
band_fits w i =
    record {
      begin = of_bits-fits binary64 (at w (band_at i + 2));
      end = of_bits-fits binary64 (at w (band_at i + 3));
      desired = value_fits (at w (band_at i)) (at w (band_at i + 4)) (at w (band_at i + 5));
      weight = value_fits (at w (band_at i + 1)) (at w (band_at i + 6)) (at w (band_at i + 7));
    }

pub read_stored : (w : List ℕ) → Stored (fields_of w)
unfolding fields_of
read_stored w =
    record {
      threshold = of_bits-fits binary64 (at w threshold_at);
      flatness = of_bits-fits binary64 (at w flatness_at);
      bands = λ i h. subst (λ (b : Band). BandFits b) (sym (tab-get (band_in w) 8 i no_band h)) (band_fits w i);
      points = λ i h. subst (λ (x : Float). T (fits binary64 x)) (sym (tab-get (λ i. number w (point_at i)) 65 i nan h)) (of_bits-fits binary64 (at w (point_at i)));
      room = length-tab (λ i. number w (point_at i)) 65 0;
    }
