-- Whatever is given, a matrix that is answered has at most 15 rows of 15 finite entries, and its pass count is at most 64 and is 0
-- exactly where it has no rows. Assumes nothing.
use Rattle.std.specs.Prelude.{Result, Ok, Option, Some, None}
use Rattle.numbers.specs.declared.Refusal.{Refusal}
use Prim.Native.Nat.{ℕ, zero, suc, ◌+◌, ◌-◌, ◌<◌, ◌≤◌}
use mathlib.Core.Path.{◌≡◌, refl, sym, ◌∙◌}
use mathlib.Core.Bool.{Bool, true, false, cond, not, ◌&&◌}
use mathlib.Core.List.{List, []}
use native.Mathlib.Omega.{arith}
use borrow.Author.Tests.{leb-true, eqb-true, eqb-false}
use lib.Dec.{eqb, leb}
use lib.ListN.{length, get_or, set, replicate, length-set, get_or-replicate}
use lib.Seq.{get_or-set_same, get_or-set_other}
use lib.Ieee.{Float, of_bits}
use Rattle.numbers.specs.Floats.{zero64, all_finite}
use Rattle.numbers.specs.Loops.{until}
use Rattle.numbers.specs.Outcome.{Outcome, refused, gave, bind, unless}
use Rattle.numbers.proofs.LoopLaws.{run_keeps, every-at}
use Rattle.numbers.proofs.Given.{gave_same, never_given, unless_given, bind_given}
use Rattle.numbers.proofs.Order.{and_2}
use Rattle.colleague.specs.declared.Colleague.{Colleague}
use Rattle.colleague.specs.Matrix.{Matrix, put, zeros, entries_finite}
use Rattle.colleague.specs.Built.{set_if, row_of, without_zeros, built_of}
use Rattle.colleague.specs.Balance.{scale_at, scaled_by, moved_by, scale_of, row_norm, column_norm, step_of, stepped, Pass, pass_by, pass_from, pass_of, Balanced, balanced_from, balanced_of}
use Rattle.colleague.specs.Answer.{shown, no_rows, most_coefficients, balanced_for, colleague_for}
use Rattle.colleague.specs.Lent.{Lent}
use Rattle.colleague.proofs.BuiltLaws.{zeros_within}

-- what a matrix that is answered is: its rows, with its size and its passes
pub record Bounded (m : Colleague) : Type 0 where
  pub rows : length m.rows ≡ 15
  pub columns : (i : ℕ) → i < 15 → length (get_or m.rows i []) ≡ 15
  pub finite : (i : ℕ) → i < 15 → all_finite (get_or m.rows i []) ≡ true
  pub entries : entries_finite m.rows ≡ true
  pub size : m.size ≤ 15
  pub passes : m.passes ≤ 64
  pub none : m.size ≡ 0 → m.passes ≡ 0
  pub some : m.passes ≡ 0 → m.size ≡ 0

-- ---- every matrix on the way is 15 by 15
record Square (a : Matrix) : Type 0 where
  long : length a ≡ 15
  wide : (i : ℕ) → i < 15 → length (get_or a i []) ≡ 15

zeros-square : Square zeros
zeros-square = record { long = refl; wide = λ i h. rw (get_or-replicate 15 i (replicate 15 zero64) [] h) }

set-square : (a : Matrix) (i : ℕ) (r : List Float) → Square a → (i < 15 → length r ≡ 15) → Square (set a i r)
set-square a i r q h = record { long = length-set a i r ∙ q.long; wide = λ k l. pick k l (eqb k i) refl }
  where
    pick : (k : ℕ) → k < 15 → (t : Bool) → eqb k i ≡ t → length (get_or (set a i r) k []) ≡ 15
    pick k l true e =
        let z : i ≡ k = sym (eqb-true k i e) in
        let m : k < length a = omega (arith, q.long) in
        rw (z, get_or-set_same a k r [] m) (h (omega arith))
    pick k l false e = rw (get_or-set_other a i k r [] (eqb-false k i e)) (q.wide k l)

put-square : (a : Matrix) (i j : ℕ) (v : Float) → Square a → Square (put a i j v)
put-square a i j v q = set-square a i (set (get_or a i []) j v) q (λ h. length-set (get_or a i []) j v ∙ q.wide i h)

cond-square : (t : Bool) (a b : Matrix) → Square a → Square b → Square (cond t a b)
cond-square true a b p q = p
cond-square false a b p q = q

length-set_if : (t : Bool) (i : ℕ) (v : Float) (r : List Float) → length (set_if t i v r) ≡ length r
length-set_if true i v r = length-set r i v
length-set_if false i v r = refl

row_long : (c : List Float) (s i : ℕ) → length (row_of c s i) ≡ 15
row_long c s i = simp (length-set, length-set_if)

built_square : (c : List Float) (s : ℕ) → Square (built_of c s)
unfolding built_of
built_square c s = run_keeps Square (λ i a. set a i (row_of c s i)) (λ i a q. set-square a i (row_of c s i) q (λ h. row_long c s i)) s 0 zeros zeros-square

scaled-square : (f : Float) (a : Matrix) (n j : ℕ) → Square a → Square (scaled_by f a n j)
scaled-square f a n j q =
    run_keeps Square (scale_at f j)
    (λ k b p. cond-square (eqb k j) _ _ p (put-square _ k j _ (put-square b j k _ p))) n 0 a q

moved-square : (t : Option Bool) (f : Float) (a : Matrix) (n j : ℕ) → Square a → Square (moved_by t f a n j)
moved-square (Some false) f a n j q = q
moved-square (Some true) f a n j q = scaled-square f a n j q
moved-square None f a n j q = q

stepped-square : (a : Matrix) (n j : ℕ) → Square a → Square (stepped a n j)
stepped-square a n j q = moved-square (step_of a n j) (scale_of (row_norm a n j) (column_norm a n j)).factor a n j q

by_square : (t : Option Bool) (m : Bool) (b : Matrix) (k : Bool → Pass) → Square b → ((u : Bool) → Square (k u).matrix) → Square (pass_by t m b k).matrix
by_square (Some false) m b k q p = p m
by_square (Some true) m b k q p = p true
by_square None m b k q p = q

pass_square : (k n j : ℕ) (a : Matrix) (m : Bool) → Square a → Square (pass_from k n j a m).matrix
unfolding pass_from
pass_square zero n j a m q = q
pass_square (suc k) n j a m q =
    let p = stepped-square a n j q in
    by_square (step_of a n j) m (stepped a n j) (pass_from k n (suc j) (stepped a n j)) p (λ u. pass_square k n (suc j) (stepped a n j) u p)

-- ---- k passes more at most, after `made`, and one at least
record Ends (k made : ℕ) (b : Balanced) : Type 0 where
  square : Square b.matrix
  least : made < b.passes
  most : b.passes ≤ made + k

balanced_ends : (k made n : ℕ) (a : Matrix) (b : Balanced) → Square a → balanced_from k made n a ≡ gave b → Ends k made b
unfolding balanced_from
balanced_ends zero made n a b q e = absurd (let z : ◌≡◌ {A = ℕ} 0 1 = cc in omega arith)
balanced_ends (suc k) made n a b q e =
    pick ((pass_of a n).moved && not (pass_of a n).stopped) (pass_of a n).matrix (pass_square n n 0 a false q) e
    (λ h. balanced_ends k (suc made) n (pass_of a n).matrix b (pass_square n n 0 a false q) h)
  where
    pick : (t : Bool) (m : Matrix) → Square m → cond t (balanced_from k (suc made) n m) (gave (record { matrix = m; passes = suc made })) ≡ gave b
        → (balanced_from k (suc made) n m ≡ gave b → Ends k (suc made) b) → Ends (suc k) made b
    pick true m p e f = let w = f e in record { square = w.square; least = omega (arith, w.least); most = omega (arith, w.most) }
    pick false m p e f =
        let z : record { matrix = m; passes = suc made } ≡ b = cc in
        rw (← z) (record { square = p; least = omega arith; most = omega arith })

-- ---- what is shown
shown_bounded : (a : Matrix) (s p : ℕ) → Square a → entries_finite a ≡ true → s ≤ 15 → p ≤ 64 → (s ≡ 0 → p ≡ 0) → (p ≡ 0 → s ≡ 0) → Bounded (shown a s p)
shown_bounded a s p q f n m g h =
    record {
      rows = q.long;
      columns = q.wide;
      finite = λ i l. every-at (λ i. all_finite (get_or a i [])) 15 i f l;
      entries = f;
      size = n;
      passes = m;
      none = g;
      some = h;
    }

none_finite : entries_finite zeros ≡ true
unfolding until all_finite of_bits
none_finite = refl

balanced_bounded : (c : List Float) (s : ℕ) (m : Colleague) → 1 ≤ s → s ≤ 15 → balanced_for c s ≡ gave m → Bounded m
balanced_bounded c s m l h e =
    let after : Balanced → Outcome Colleague = λ b. unless (entries_finite b.matrix) 9 (gave (shown b.matrix s b.passes)) in
    let g = bind_given (balanced_of (built_of c s) s) after (unless_given (entries_finite (built_of c s)) 9 (bind (balanced_of (built_of c s) s) after) e).rest in
    let b = g.value in
    let k = unless_given (entries_finite b.matrix) 9 (gave (shown b.matrix s b.passes)) g.rest in
    let w = balanced_ends 64 0 s (built_of c s) b (built_square c s) g.given in
    rw (← gave_same k.rest)
    (shown_bounded b.matrix s b.passes w.square k.test h (omega (arith, w.most)) (λ o. omega arith) (λ o. omega (arith, w.least)))

pub given_bounded : (c : List Float) (m : Colleague) → colleague_for c ≡ gave m → Bounded m
unfolding colleague_for
given_bounded c m e =
    let n = without_zeros c (length c) in
    let sized = leb 1 (length c) && leb (length c) most_coefficients in
    let last = cond (eqb n 1) (gave no_rows) (balanced_for c (n - 1)) in
    let d = unless_given sized 15 (unless (all_finite c) 9 (unless (leb 1 n) 10 last)) e in
    let f = unless_given (leb 1 n) 10 last (unless_given (all_finite c) 9 (unless (leb 1 n) 10 last) d.rest).rest in
    pick n (leb-true (length c) 16 (and_2 (leb 1 (length c)) (leb (length c) 16) d.test)) (zeros_within c (length c))
    (leb-true 1 n f.test) (eqb n 1) refl f.rest
  where
    pick : (n : ℕ) → length c ≤ 16 → n ≤ length c → 1 ≤ n → (t : Bool) → eqb n 1 ≡ t → cond t (gave no_rows) (balanced_for c (n - 1)) ≡ gave m → Bounded m
    pick n l w h true k e =
        let z : no_rows ≡ m = cc in
        rw (← z) (shown_bounded zeros 0 0 zeros-square none_finite (omega arith) (omega arith) (λ o. refl) (λ o. refl))
    pick n l w h false k e =
        let o = eqb-false n 1 k in
        balanced_bounded c (n - 1) m (omega (arith, o)) (omega arith) e

-- ---- what a count of s rows tells of the lent matrix
pub record Giving (c : List Float) (s : ℕ) (a : Matrix) : Type 0 where
  pub matrix : Colleague
  pub given : gave matrix ≡ colleague_for c
  pub sized : s ≡ matrix.size
  pub rows : a ≡ matrix.rows
  pub bounded : Bounded matrix

pub lent_given : {c : List Float} {r : Result ℕ Refusal} {a : Matrix} {s : ℕ} → Lent (colleague_for c) r a → r ≡ Ok s → Giving c s a
lent_given {c} {r} {a} {s} l e = pick (colleague_for c) refl l
  where
    pick : (o : Outcome Colleague) → o ≡ colleague_for c → Lent o r a → Giving c s a
    pick (refused n) f l = absurd (never_given (sym (rw e at l.is)))
    pick (gave m) f l = record { matrix = m; given = f; sized = gave_same (rw e at l.is); rows = l.out; bounded = given_bounded c m (sym f) }
