-- Numbers that are read one after another into a list. Assumes nothing.
use Rattle.std.proofs.Common.{ℕ, suc, ◌+◌, ◌-◌, ◌<◌, ◌≤◌, ◌≡◌, List, Option, Some, None, arith, lt-ltb, le-ltb, length}
use native.Mathlib.Nat.{sub-zero}
use lib.Ieee.{Float}
use lib.ListN.{set}
use Rattle.text.specs.Words.{next_of}
use Rattle.text.specs.declared.Word.{Word}
use Rattle.cases.specs.declared.Span.{Span}
use Rattle.cases.specs.Cases.{span, number_in, numbers_from, numbers_at, Reading, reading}

-- i of the numbers are read, and those from `from` on give r
pub record Underway (s : List ℕ) (at count i from : ℕ) (w : List Float) (r : Reading (Option Span)) : Type 0 where
  pub within : i ≤ count
  pub rest : numbers_from s at count (count - i) i from w ≡ r

pub read_start : {s : List ℕ} {at count : ℕ} {w : List Float} → Underway s at count 0 at w (numbers_at s at count w)
read_start = record { within = omega arith; rest = rw sub-zero }

module _ {s : List ℕ} {at count i from : ℕ} {w : List Float} {r : Reading (Option Span)} (g : Underway s at count i from w r) where
  pub read_full : i < count → length w ≤ i → reading None w ≡ r
  unfolding numbers_from
  read_full h k = let z : count - i ≡ suc (count - (i + 1)) = omega arith in rw (z, le-ltb i (length w) k) at g.rest

  pub read_none : i < count → i < length w → next_of s from ≡ None → reading None w ≡ r
  unfolding numbers_from
  read_none h k e = let z : count - i ≡ suc (count - (i + 1)) = omega arith in rw (z, lt-ltb i (length w) k, e) at g.rest

  pub read_next : {a : Word} → i < count → i < length w → next_of s from ≡ Some a →
      Underway s at count (i + 1) a.to (set w i (number_in s a.from a.to)) r
  unfolding numbers_from
  read_next h k e =
      let z : count - i ≡ suc (count - (i + 1)) = omega arith in
      record { within = omega arith; rest = rw (z, lt-ltb i (length w) k, e) at g.rest }

  pub read_end : count ≤ i → reading (Some (span count from)) w ≡ r
  unfolding numbers_from
  read_end h = let z : count - i ≡ 0 = omega arith in rw z at g.rest
