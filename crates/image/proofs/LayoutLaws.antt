-- What bytes that hold the layout are. Assumes nothing.
use Prim.Native.Nat.{ℕ, ◌≤◌}
use mathlib.Core.Path.{◌≡◌}
use mathlib.Core.Bool.{true, ◌&&◌}
use mathlib.Core.List.{List}
use borrow.Author.Tests.{leb-true, eqb-true}
use lib.Dec.{eqb, leb}
use lib.ListN.{length}
use lib.Ieee.{binary64, of_bits}
use Rattle.numbers.specs.Loops.{every}
use Rattle.numbers.proofs.Order.{and_1, and_2}
use Rattle.fields.specs.Accept.{counts_hold}
use Rattle.image.specs.Bytes.{number_at}
use Rattle.image.specs.Image.{length_for, made_in, count_in, points_in, marked, band_laid, head_laid, layout}

pub record Head (s : List ℕ) : Type 0 where
  pub long : 28 ≤ length s
  pub mark : marked s ≡ true
  pub version : number_at s 3 2 ≡ 1
  pub symmetry : number_at s 5 1 ≤ 1
  pub least : 1 ≤ count_in s
  pub most : count_in s ≤ 8
  pub counts : counts_hold (made_in s) (number_at s 9 1) (of_bits binary64 (number_at s 20 8)) ≡ true

pub head_facts : (s : List ℕ) → head_laid s ≡ true → Head s
unfolding head_laid
head_facts s e =
    let t1 = leb 28 (length s) in
    let t2 = marked s in
    let t3 = eqb (number_at s 3 2) 1 in
    let t4 = leb (number_at s 5 1) 1 in
    let t5 = leb 1 (count_in s) in
    let t6 = leb (count_in s) 8 in
    let t7 = counts_hold (made_in s) (number_at s 9 1) (of_bits binary64 (number_at s 20 8)) in
    let e6 = and_1 (t1 && t2 && t3 && t4 && t5 && t6) t7 e in
    let e5 = and_1 (t1 && t2 && t3 && t4 && t5) t6 e6 in
    let e4 = and_1 (t1 && t2 && t3 && t4) t5 e5 in
    let e3 = and_1 (t1 && t2 && t3) t4 e4 in
    let e2 = and_1 (t1 && t2) t3 e3 in
    record {
      long = leb-true 28 (length s) (and_1 t1 t2 e2);
      mark = and_2 t1 t2 e2;
      version = eqb-true (number_at s 3 2) 1 (and_2 (t1 && t2) t3 e3);
      symmetry = leb-true (number_at s 5 1) 1 (and_2 (t1 && t2 && t3) t4 e4);
      least = leb-true 1 (count_in s) (and_2 (t1 && t2 && t3 && t4) t5 e5);
      most = leb-true (count_in s) 8 (and_2 (t1 && t2 && t3 && t4 && t5) t6 e6);
      counts = and_2 (t1 && t2 && t3 && t4 && t5 && t6) t7 e;
    }

pub record Layout (s : List ℕ) : Type 0 where
  pub head : Head s
  pub fits : length s ≡ length_for (count_in s) (points_in s)
  pub bands : every (band_laid s) (count_in s) ≡ true

pub layout_facts : (s : List ℕ) → layout s ≡ true → Layout s
unfolding layout
layout_facts s e =
    let t1 = head_laid s in
    let t2 = eqb (length s) (length_for (count_in s) (points_in s)) in
    let t3 = every (band_laid s) (count_in s) in
    let e2 = and_1 (t1 && t2) t3 e in
    record {
      head = head_facts s (and_1 t1 t2 e2);
      fits = eqb-true (length s) (length_for (count_in s) (points_in s)) (and_2 t1 t2 e2);
      bands = and_2 (t1 && t2) t3 e;
    }
