-- Subdivision as loops: a band cut point by point, band after band, and the intervals put one behind the other. Assumes nothing.
use Prim.Native.Nat.{ℕ, zero, suc, ◌+◌, ◌-◌, ◌<◌, ◌≤◌}
use mathlib.Core.Path.{◌≡◌, refl, sym, ap, ◌∙◌}
use mathlib.Core.Bool.{true, false}
use mathlib.Core.List.{List, [], ◌∷◌, ◌++◌, append_assoc, append-nil}
use native.Mathlib.Omega.{arith}
use native.Mathlib.Numerals.{add-one}
use borrow.Author.Tests.{not-true, not-false}
use lib.ListN.{length, get_or, take, drop, length-take, drop_of_length-le}
use lib.Seq.{drop-cons, get_or-take}
use lib.Ieee.{Float, nan, lt, eq, ne}
use Rattle.numbers.specs.Floats.{zero64}
use Rattle.numbers.specs.Loops.{tab}
use Rattle.numbers.proofs.LoopLaws.{length-tab}
use Rattle.listed.proofs.Laws.{listed_more}
use Rattle.numbers.proofs.Fronts.{length_more}
use Rattle.fir_types.specs.declared.edges.Interval.{Interval}
use Rattle.fir_types.specs.Edges.{Edges}
use Rattle.fir_types.specs.Edges.{interval}
use Rattle.subdivision.specs.Subdivide.{Intervals}
use Rattle.subdivision.specs.declared.cuts.Cutting.{Cutting}
use Rattle.subdivision.specs.First.{band_of}
use Rattle.subdivision.specs.Subdivide.{Cut, cut_band, cut_bands, from_back, rising_last, rising, subdivided, packed, push, push_all, cut_from}
use Rattle.subdivision.proofs.Bound.{cut_step, cut_count, cut_some, most_intervals_lem}

-- ---- the points from the back of the list
length-rising : (x : List Float) (k : ℕ) → length (rising_last x k) ≡ k
length-rising x k = length-tab (from_back x) k (length x - k)

rising_none : (x : List Float) → rising_last x 0 ≡ []
unfolding tab
rising_none x = refl

rising_next : (x : List Float) (k : ℕ) → k < length x → rising_last x (suc k) ≡ get_or x k nan ∷ rising_last x k
unfolding tab
rising_next x k h =
    let a : length x - 1 - (length x - suc k) ≡ k = omega arith in
    let b : length x - suc k + 1 ≡ length x - k = omega arith in
    rw (a, b)

-- ---- a band's cut leaves the last of the points
cut_left : (x : List Float) (begin end : Float) (k : ℕ) → k ≤ length x → (cut_band begin end (rising_last x k)).left ≡ rising_last x (length (cut_band begin end (rising_last x k)).left)
unfolding cut_band
cut_left x begin end zero h = rw (rising_none x) (sym (rising_none x))
cut_left x begin end (suc k) h =
    let n = sym (length-rising x k) in
    rw (rising_next x k h)
    (cut_step (λ c. c.left ≡ rising_last x (length c.left)) begin end (get_or x k nan) (rising_last x k)
    (sym (rising_next x k h) ∙ ap (λ n. rising_last x (suc n)) n)
    (ap (rising_last x) n)
    (cut_left x begin end k (omega arith))
    (cut_left x (get_or x k nan) end k (omega arith)))

-- ---- intervals put behind those that are there
push-append : (l m : List Interval) (s : Intervals) → push_all (l ++ m) s ≡ push_all m (push_all l s)
unfolding push_all
push-append [] m s = refl
push-append (i ∷ l) m s = push-append l m (push i s)

push_count : (l : List Interval) (s : Intervals) → (push_all l s).count ≡ s.count + length l
unfolding push_all
push_count [] s = omega arith
push_count (i ∷ l) s = push_count l (push i s) ∙ omega arith

push-packed : (l m : List Interval) → length m + length l ≤ 73 → push_all l (packed m) ≡ packed (m ++ l)
unfolding push_all
push-packed [] m h = rw append-nil
push-packed (i ∷ l) m h =
    let a : length m < 73 = omega arith in
    let b : length (m ++ (i ∷ [])) + length l ≤ 73 = omega (arith, length_more m i) in
    ap (push_all l) (listed_more (interval zero64 zero64) 73 m i a) ∙ push-packed l (m ++ (i ∷ [])) b ∙ ap packed (append_assoc m (i ∷ []) l)

-- ---- a band being cut: from `begin` on, with these intervals made and so many points left, it ends as r
pub record Underway (x : List Float) (begin end : Float) (made : Intervals) (left : ℕ) (r : Cutting) : Type 0 where
  pub within : left ≤ length x
  pub room : made.count + left < 73
  pub rest : cut_from x begin end (record { intervals = made; left = left }) ≡ r

same : (x y : Float) → ne x y ≡ false → eq x y ≡ true
unfolding ne
same x y h = not-false (eq x y) h

other : (x y : Float) → ne x y ≡ true → eq x y ≡ false
unfolding ne
other x y h = not-true (eq x y) h

-- the points that are left, and the intervals that come of them
abbrev over : Intervals → Cut → Cutting
over s c = record { intervals = push_all c.made s; left = length c.left }

module _ {x : List Float} {begin end : Float} {made : Intervals} {left : ℕ} {r : Cutting} (g : Underway x begin end made left r) where
  -- the next point
  abbrev a : Float
  a = get_or x (left - 1) nan

  turn : 0 < left → over made (cut_band begin end (a ∷ rising_last x (left - 1))) ≡ r
  turn h =
      let l : left - 1 < length x = omega (arith, g.within) in
      let z : suc (left - 1) ≡ left = omega arith in
      ap (λ l. over made (cut_band begin end l)) (sym (rising_next x (left - 1) l) ∙ ap (rising_last x) z) ∙ g.rest

  pub cut_stays : {t : Intervals} → 0 < left → lt end a ≡ true → t ≡ push (interval begin end) made → record { intervals = t; left = left - 1 + 1 } ≡ r
  unfolding cut_band push_all
  cut_stays {t} h p e =
      let z : left - 1 + 1 ≡ suc (length (rising_last x (left - 1))) = omega (arith, length-rising x (left - 1)) in
      (λ j. record { intervals = e j; left = z j }) ∙ (rw p at (turn h))

  pub cut_at_end : {t : Intervals} → 0 < left → lt end a ≡ false → eq a end ≡ true → t ≡ push (interval begin end) made → record { intervals = t; left = left - 1 } ≡ r
  unfolding cut_band push_all
  cut_at_end {t} h p q e =
      (λ j. record { intervals = e j; left = sym (length-rising x (left - 1)) j }) ∙ (rw (p, q) at (turn h))

  pub cut_same : 0 < left → lt end a ≡ false → eq a end ≡ false → ne begin a ≡ false → Underway x begin end made (left - 1) r
  unfolding cut_band
  cut_same h p q n =
      let s : eq begin a ≡ true = same begin a n in
      record { within = omega (arith, g.within); room = omega (arith, g.room); rest = rw (p, q, s) at (turn h) }

  pub cut_inside : {t : Intervals} → 0 < left → lt end a ≡ false → eq a end ≡ false → ne begin a ≡ true → t ≡ push (interval begin a) made → Underway x a end t (left - 1) r
  unfolding cut_band push_all
  cut_inside {t} h p q n e =
      let s : eq begin a ≡ false = other begin a n in
      rw e (record { within = omega (arith, g.within); room = omega (arith, g.room); rest = rw (p, q, s) at (turn h) })

  pub cut_done : {t : Intervals} → left ≤ 0 → t ≡ push (interval begin end) made → record { intervals = t; left = 0 } ≡ r
  unfolding cut_band push_all
  cut_done {t} h e =
      let z : left ≡ 0 = omega arith in
      (λ j. record { intervals = e j; left = 0 }) ∙ (rw (rising_none x) at (rw z at g.rest))

-- ---- band after band: from band i on, with these intervals made and so many points left, they end as r
abbrev bands_of : Edges → List Interval
bands_of e = take e.count e.list

pub record Dividing (x : List Float) (e : Edges) (made : Intervals) (left i : ℕ) (r : Intervals) : Type 0 where
  pub within : left ≤ length x
  pub room : made.count + left + (e.count - i) ≤ 73
  pub rest : push_all (cut_bands (drop i (bands_of e)) (rising_last x left)) made ≡ r

pub divide_start : (x : List Float) (e : Edges) → length x ≤ 65 → e.count ≤ 8 → Dividing x e (packed []) (length x) 0 (packed (subdivided x e))
unfolding subdivided
divide_start x e h k =
    let z : length x - length x ≡ 0 = omega arith in
    record {
      within = omega arith;
      room = omega arith;
      rest = rw z (push-packed (cut_bands (bands_of e) (rising x)) [] (omega (arith, most_intervals_lem x e)));
    }

module _ {x : List Float} {e : Edges} {made : Intervals} {left i : ℕ} {r : Intervals} (g : Dividing x e made left i r) where
  pub divide_next : {c : Cutting} → i < e.count → e.count ≤ length e.list
      → c ≡ cut_from x (band_of e i).begin (band_of e i).end (record { intervals = made; left = left }) → Dividing x e c.intervals c.left (i + 1) r
  unfolding cut_bands
  divide_next {c} h l q =
      rw (q, add-one)
      (record {
        within = omega (arith, g.within, most, cut_some b.begin b.end (rising_last x left));
        room = omega (arith, g.room, most, push_count k.made made);
        rest = sym (push-append k.made (cut_bands (drop (suc i) (bands_of e)) (rising_last x (length k.left))) made) ∙ here;
      })
    where
      b : Interval
      b = band_of e i

      k : Cut
      k = cut_band b.begin b.end (rising_last x left)

      most : length k.made + length k.left ≤ left + 1
      most = rw (length-rising x left) at (cut_count b.begin b.end (rising_last x left))

      inside : i < length (bands_of e)
      inside = omega (arith, length-take e.count e.list)

      first : drop i (bands_of e) ≡ b ∷ drop (suc i) (bands_of e)
      first = drop-cons (bands_of e) i (interval nan nan) inside ∙ ap (λ b. b ∷ drop (suc i) (bands_of e)) (get_or-take e.count e.list i (interval nan nan) h)

      here : push_all (k.made ++ cut_bands (drop (suc i) (bands_of e)) (rising_last x (length k.left))) made ≡ r
      here =
          ap (λ l. push_all (k.made ++ cut_bands (drop (suc i) (bands_of e)) l) made) (sym (cut_left x b.begin b.end left g.within))
          ∙ (rw first at g.rest)

  pub divide_end : e.count ≤ i → made ≡ r
  unfolding cut_bands push_all
  divide_end h =
      let l : length (bands_of e) ≤ i = omega (arith, length-take e.count e.list) in
      rw (drop_of_length-le (bands_of e) {i = i} l) at g.rest
