-- The bands in x, gathered at the front of an array of zeros. Assumes nothing.
use Prim.Native.Nat.{ℕ, ◌+◌, ◌-◌, ◌<◌, ◌≤◌}
use mathlib.Core.Path.{◌≡◌, refl, sym, ap, ◌∙◌}
use mathlib.Core.List.{List}
use native.Mathlib.Omega.{arith}
use native.Mathlib.Numerals.{add-one}
use lib.ListN.{length, set, take, replicate, length-set}
use lib.Seq.{length-take-le, take-suc-set}
use Rattle.numbers.specs.Floats.{zero64}
use Rattle.numbers.specs.Outcome.{Outcome, refused, gave, gather}
use Rattle.numbers.proofs.OutcomeLaws.{Gathering, gather_start, gather_next, gather_stop, gather_end, bind_next, bind_stop}
use Rattle.numbers.proofs.Fronts.{padded_more}
use Rattle.fir_types.specs.declared.edges.Interval.{Interval}
use Rattle.fir_types.specs.Edges.{Edges}
use Rattle.fir_types.specs.Edges.{interval, packed}
use Rattle.subdivision.specs.First.{band_of}
use Rattle.exchange.specs.Bands.{band_in_x, bands_in_x}

-- the band that comes at i: the last one first
abbrev turned : Edges → ℕ → Outcome Interval
turned e i = band_in_x (band_of e (e.count - 1 - i))

-- the first i are there, and zeros behind them
pub record Turning (e : Edges) (i : ℕ) (list : List Interval) : Type 0 where
  pub few : e.count ≤ 8
  pub long : length list ≡ 8
  pub front : list ≡ (packed (take i list)).list
  pub rest : Gathering (turned e) e.count i list (gather (turned e) e.count 0)

module _ {e : Edges} where
  pub turn_start : e.count ≤ 8 → Turning e 0 (replicate 8 (interval zero64 zero64))
  turn_start h = record { few = h; long = refl; front = refl; rest = gather_start }

  pub turn_next : {i : ℕ} {list : List Interval} (b : Interval) → Turning e i list → i < e.count → gave b ≡ turned e i → Turning e (i + 1) (set list i b)
  turn_next {i} {list} b t h g =
      let few = t.few in
      let long = t.long in
      let k : i < length list = omega arith in
      let n : length (take i list) ≡ i = length-take-le i list (omega arith) in
      let room : length (take i list) < 8 = omega arith in
      record {
        few = few;
        long = length-set list i b ∙ long;
        front =
            ap (λ (l : List Interval). set l i b) t.front
            ∙ ap (λ k. set (packed (take i list)).list k b) (sym n)
            ∙ padded_more 8 (interval zero64 zero64) (take i list) b room
            ∙ ap (λ (l : List Interval). (packed l).list) (sym (take-suc-set list i b k) ∙ ap (λ k. take k (set list i b)) (sym (add-one i)));
        rest = gather_next t.rest h k g;
      }

  pub turn_stop : {i n : ℕ} {list : List Interval} → Turning e i list → i < e.count → refused n ≡ turned e i → refused n ≡ bands_in_x e
  unfolding bands_in_x
  turn_stop t h g = bind_stop (λ l. gave (packed l)) (gather_stop t.rest h g)

  pub turn_end : {i : ℕ} {list : List Interval} → Turning e i list → e.count ≤ i → gave (record { list = list; count = e.count }) ≡ bands_in_x e
  unfolding bands_in_x
  turn_end {i} {list} t h =
      let few = t.few in
      let long = t.long in
      let k = t.rest.within in
      let z : i ≡ e.count = omega arith in
      let n : length (take i list) ≡ i = length-take-le i list (omega arith) in
      bind_next (λ l. gave (packed l)) (gather_end t.rest h)
      (λ j. gave (record { list = t.front j; count = (sym z ∙ sym n) j }))
