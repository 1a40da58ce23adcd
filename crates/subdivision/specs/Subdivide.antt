-- Subdivision of the bands in x by the points (document 01): points come in falling x, bands in rising x.
use Rattle.std.specs.Prelude.{ℕ, ◌+◌, ◌-◌, Bool, ◌&&◌, cond, List, [], ◌∷◌, ◌++◌, leb, length, get_or, take, set, replicate, Float}
use Rattle.std.specs.Float.{nan}
use Rattle.std.specs.Float.Ieee.{lt, eq}
use Rattle.numbers.specs.Floats.{zero64, all_finite}
use Rattle.numbers.specs.Loops.{tab}
use Rattle.numbers.specs.Outcome.{Outcome, gave, unless}
use Rattle.fir_types.specs.declared.edges.Interval.{Interval}
use Rattle.fir_types.specs.Edges.{Edges}
use Rattle.fir_types.specs.Edges.{interval}
use Rattle.listed.specs.declared.Listed.{Listed}
use Rattle.listed.specs.Listed.{listed}
use Rattle.subdivision.specs.declared.cuts.Cutting.{Cutting}
use Rattle.subdivision.specs.First.{edges_finite}

-- the intervals of one band from `begin` on, and the points that are left. A point right of the band's end stays; one at its end is
-- consumed; one inside ends an interval and begins the next, but one equal to the running begin makes none; one below it makes
-- a backward interval
pub record Cut : Type 0 where
  pub made : List Interval
  pub left : List Float

abbrev pub with : Interval → Cut → Cut
with i c = record { made = i ∷ c.made; left = c.left }

unfoldable pub cut_band : Float → Float → List Float → Cut
cut_band begin end [] = record { made = interval begin end ∷ []; left = [] }
cut_band begin end (a ∷ l) =
    let inside = cond (eq begin a) (cut_band begin end l) (with (interval begin a) (cut_band a end l)) in
    cond (lt end a) (record { made = interval begin end ∷ []; left = a ∷ l })
    (cond (eq a end) (record { made = interval begin end ∷ []; left = l }) inside)

-- band after band, with the points in rising order; points left over are ignored
unfoldable pub cut_bands : List Interval → List Float → List Interval
cut_bands [] l = []
cut_bands (b ∷ bs) l = let c = cut_band b.begin b.end l in c.made ++ cut_bands bs c.left

-- the points in rising order: those of the list from its back; and the last k of them
abbrev pub from_back : List Float → ℕ → Float
from_back x i = get_or x (length x - 1 - i) nan

abbrev pub rising : List Float → List Float
rising x = tab (from_back x) (length x) 0

abbrev pub rising_last : List Float → ℕ → List Float
rising_last x k = tab (from_back x) k (length x - k)

unfoldable pub subdivided : List Float → Edges → List Interval
subdivided x e = cut_bands (take e.count e.list) (rising x)

-- points + bands
abbrev pub most_intervals : ℕ
most_intervals = 73

-- up to so many, zero beyond them
abbrev pub Intervals : Type 0
Intervals = Listed Interval most_intervals

abbrev pub packed : List Interval → Intervals
packed = listed (interval zero64 zero64) most_intervals

abbrev pub none : Intervals
none = packed []

-- intervals behind those that are there
abbrev pub push : Interval → Intervals → Intervals
push i s = record { list = set s.list s.count i; count = s.count + 1 }

unfoldable pub push_all : List Interval → Intervals → Intervals
push_all [] s = s
push_all (i ∷ l) s = push_all l (push i s)

-- one band cut, from `begin` on, behind what is made
abbrev pub cut_from : List Float → Float → Float → Cutting → Cutting
cut_from x begin end c =
    let k = cut_band begin end (rising_last x c.left) in
    record { intervals = push_all k.made c.intervals; left = length k.left }

-- 1 to 65 points and 1 to 8 bands
abbrev pub subdivide_sized : ℕ → Edges → Bool
subdivide_sized points e = leb 1 points && leb points 65 && leb 1 e.count && leb e.count 8

-- 15 where they are not so many; 9 for a number that is not finite
unfoldable pub subdivide_for : List Float → Edges → Outcome Intervals
subdivide_for x e =
    unless (subdivide_sized (length x) e) 15 (unless (all_finite x && edges_finite e) 9 (gave (packed (subdivided x e))))
