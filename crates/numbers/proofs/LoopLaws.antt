-- The laws of loops, each once. A loop's invariant is a record that says what is still to be done from here; `loops` is the
-- ruleset with which `search` closes a plain loop's needs. Assumes nothing.
use Prim.Native.Nat.{ℕ, zero, suc, ◌+◌, ◌-◌, ◌<◌, ◌≤◌}
use mathlib.Core.Path.{◌≡◌, refl, sym, ◌∙◌, ap}
use mathlib.Core.Bool.{Bool, true, false, not, cond, true≢false}
use mathlib.Core.List.{List, ◌∷◌, ◌++◌, map}
use native.Mathlib.Omega.{arith}
use borrow.Author.Rules.{rules}
use native.Mathlib.Nat.{sub-zero, add-zero, zero-add}
use native.Mathlib.Decide.{dec_lt}
use borrow.Author.Tests.{lt-ltb, le-ltb}
use lib.Dec.{ltb}
use lib.ListN.{length, get_or, set, drop, take, take-append-drop, length-set, drop_of_length-le}
use lib.Seq.{take-suc-set, drop-set-lt, drop-cons}
use native.Mathlib.Numerals.{add-one}
use mathlib.Core.List.{append_assoc, append-nil}
use Rattle.numbers.specs.Loops.{run, until, strided, tab, every}

-- what is left to do from i and s gives r
pub record Going {A : Type 0} (f : ℕ → A → A) (n i : ℕ) (s r : A) : Type 0 where
  pub within : i ≤ n
  pub rest : run f (n - i) i s ≡ r

pub start : {A : Type 0} {f : ℕ → A → A} {n : ℕ} {s : A} → Going f n 0 s (run f n 0 s)
start = record { within = omega arith; rest = rw sub-zero }

pub next : {A : Type 0} {f : ℕ → A → A} {n i : ℕ} {s t r : A} → Going f n i s r → i < n → t ≡ f i s → Going f n (i + 1) t r
unfolding run
next {A} {f} {n} {i} {s} {t} {r} g h e =
    let k : n - i ≡ suc (n - (i + 1)) = omega arith in
    record { within = omega arith; rest = rw e (rw k at g.rest) }

pub end : {A : Type 0} {f : ℕ → A → A} {n i : ℕ} {s r : A} → Going f n i s r → n ≤ i → s ≡ r
unfolding run
end {A} {f} {n} {i} {s} {r} g h = let k : n - i ≡ 0 = omega arith in rw k at g.rest

-- what every turn keeps, a loop keeps
pub run_keeps : {A : Type 0} (P : A → Type 0) (f : ℕ → A → A) → ((i : ℕ) (s : A) → P s → P (f i s)) → (n i : ℕ) (s : A) → P s → P (run f n i s)
unfolding run
run_keeps P f k zero i s p = p
run_keeps P f k (suc n) i s p = run_keeps P f k n (i + 1) (f i s) (k i s p)

pub record Seeking {S R : Type 0} (stop : ℕ → Bool) (out : ℕ → R) (f : ℕ → S → S) (fin : S → R) (n i : ℕ) (s : S) (r : R) : Type 0 where
  pub within : i ≤ n
  pub rest : until stop out f fin (n - i) i s ≡ r

module _ {S R : Type 0} {stop : ℕ → Bool} {out : ℕ → R} {f : ℕ → S → S} {fin : S → R} {n : ℕ} where
  pub seek_start : {s : S} → Seeking stop out f fin n 0 s (until stop out f fin n 0 s)
  seek_start = record { within = omega arith; rest = rw sub-zero }

  pub seek_stop : {i : ℕ} {s : S} {r : R} → Seeking stop out f fin n i s r → i < n → stop i ≡ true → out i ≡ r
  unfolding until
  seek_stop {i} {s} {r} g h e = let k : n - i ≡ suc (n - (i + 1)) = omega arith in rw (k, e) at g.rest

  pub seek_next : {i : ℕ} {s t : S} {r : R} → Seeking stop out f fin n i s r → i < n → stop i ≡ false → t ≡ f i s → Seeking stop out f fin n (i + 1) t r
  unfolding until
  seek_next {i} {s} {t} {r} g h e q =
      let k : n - i ≡ suc (n - (i + 1)) = omega arith in
      record { within = omega arith; rest = rw q (rw (k, e) at g.rest) }

  pub seek_end : {i : ℕ} {s : S} {r : R} → Seeking stop out f fin n i s r → n ≤ i → fin s ≡ r
  unfolding until
  seek_end {i} {s} {r} g h = let k : n - i ≡ 0 = omega arith in rw k at g.rest

both : (t r : Bool) → cond (not t) false r ≡ true → (t ≡ true) × (r ≡ true)
both true r e = (refl, e)
both false r e = absurd (true≢false (sym e))

holds_from : (test : ℕ → Bool) (n i k : ℕ) → until (λ i. not (test i)) (λ i. false) (λ i s. s) (λ s. true) n i (tt {0}) ≡ true → i ≤ k → k < i + n → test k ≡ true
unfolding until
holds_from test zero i k e a b = absurd (omega arith)
holds_from test (suc n) i k e a b =
    let w = both (test i) (until (λ i. not (test i)) (λ i. false) (λ i s. s) (λ s. true) n (i + 1) (tt {0})) e in
    pick (dec_lt i k) w.0 (λ h. holds_from test n (i + 1) k w.1 (omega arith) (omega arith))
  where
    pick : Dec (i < k) → test i ≡ true → (i < k → test k ≡ true) → test k ≡ true
    pick (yes h) p q = q h
    pick (no h) p q = let z : i ≡ k = omega arith in rw (← z) p

-- a test that holds at every place holds at k
pub every-at : (test : ℕ → Bool) (n k : ℕ) → every test n ≡ true → k < n → test k ≡ true
every-at test n k e h = holds_from test n 0 k e (omega arith) (omega arith)

-- the answer of a test that looks at every place: true where it holds at each, false where one place refutes it
pub every_from : (test : ℕ → Bool) (n i : ℕ) → ((k : ℕ) → i ≤ k → k < i + n → test k ≡ true) → until (λ i. not (test i)) (λ i. false) (λ i s. s) (λ s. true) n i (tt {0}) ≡ true
unfolding until
every_from test zero i h = refl
every_from test (suc n) i h = rw (h i (omega arith) (omega arith)) (every_from test n (i + 1) (λ k a b. h k (omega arith) (omega arith)))

pub every_is : (test : ℕ → Bool) (n : ℕ) (r : Bool) → (r ≡ true → (k : ℕ) → k < n → test k ≡ true) → (r ≡ false → (k : ℕ) × k < n × test k ≡ false) → r ≡ every test n
every_is test n true every_one some_not = sym (every_from test n 0 (λ k a b. every_one refl k (omega arith)))
every_is test n false every_one some_not = go (every test n) refl
  where
    go : (t : Bool) → every test n ≡ t → false ≡ t
    go false e = refl
    go true e = let w = some_not refl in absurd (true≢false (sym (every-at test n w.0 e w.1) ∙ w.2))

pub enough : {A : Type 0} (f : ℕ → A → A) (d n m k i : ℕ) (s : A) → 0 < d → n ≤ i + m → n ≤ i + k → strided f d n m i s ≡ strided f d n k i s
unfolding strided
enough f d n zero zero i s p a b = refl
enough f d n zero (suc k) i s p a b = let h : n ≤ i = omega arith in rw (le-ltb i n h)
enough f d n (suc m) zero i s p a b = let h : n ≤ i = omega arith in rw (le-ltb i n h)
enough f d n (suc m) (suc k) i s p a b = ap (λ z. cond (ltb i n) z s) (enough f d n m k (i + d) (f i s) p (omega arith) (omega arith))

pub record Striding {A : Type 0} (f : ℕ → A → A) (d n i : ℕ) (s r : A) : Type 0 where
  pub rest : strided f d n (n - i) i s ≡ r

pub stride_start : {A : Type 0} {f : ℕ → A → A} {d n i : ℕ} {s : A} → 0 < d → Striding f d n i s (strided f d n n i s)
stride_start {A} {f} {d} {n} {i} {s} p = record { rest = enough f d n (n - i) n i s p (omega arith) (omega arith) }

pub stride_next : {A : Type 0} {f : ℕ → A → A} {d n i : ℕ} {s t r : A} → 0 < d → Striding f d n i s r → i < n → t ≡ f i s → Striding f d n (i + d) t r
unfolding strided
stride_next {A} {f} {d} {n} {i} {s} {t} {r} p g h e =
    let k : n - i ≡ suc (n - (i + 1)) = omega arith in
    record { rest = rw e (enough f d n (n - (i + d)) (n - (i + 1)) (i + d) (f i s) p (omega arith) (omega arith) ∙ (rw (k, lt-ltb i n h) at g.rest)) }

pub stride_end : {A : Type 0} {f : ℕ → A → A} {d n i : ℕ} {s r : A} → Striding f d n i s r → n ≤ i → s ≡ r
unfolding strided
stride_end {A} {f} {d} {n} {i} {s} {r} g h = let k : n - i ≡ 0 = omega arith in rw k at g.rest

abbrev pub put : {A : Type 0} → (ℕ → A) → ℕ → List A → List A
put g i o = set o i (g i)

pub fill_from : {A : Type 0} (g : ℕ → A) (m i : ℕ) (o : List A) → i + m ≤ length o → run (put g) m i o ≡ take i o ++ (tab g m i ++ drop (i + m) o)
unfolding run tab
fill_from g zero i o h = rw add-zero (sym (take-append-drop i o))
fill_from g (suc m) i o h =
    let l : i + 1 + m ≤ length (set o i (g i)) = simp length-set (omega arith) in
    let p : i < i + suc m = omega arith in
    let q : i < length o = omega arith in
    let z : suc i + m ≡ i + suc m = omega arith in
    fill_from g m (i + 1) (set o i (g i)) l ∙ rw (add-one, take-suc-set, append_assoc, z, drop-set-lt)

pub fill : {A : Type 0} (g : ℕ → A) (n : ℕ) (o : List A) → n ≤ length o → run (put g) n 0 o ≡ tab g n 0 ++ drop n o
fill g n o h = let l : 0 + n ≤ length o = omega arith in fill_from g n 0 o l ∙ rw zero-add

pub fill_start : {A : Type 0} (g : ℕ → A) (n : ℕ) (o : List A) → n ≤ length o → Going (put g) n 0 o (tab g n 0 ++ drop n o)
fill_start g n o h = rw (← fill g n o) start

pub tab_get_d : {A : Type 0} (l : List A) (d : A) (m i : ℕ) → i + m ≡ length l → tab (λ k. get_or l k d) m i ≡ drop i l
unfolding tab
tab_get_d l d zero i h = let z : length l ≤ i = omega arith in sym (drop_of_length-le l {i = i} z)
tab_get_d l d (suc m) i h = let q : i < length l = omega arith in ap (λ r. get_or l i d ∷ r) (tab_get_d l d m (i + 1) (omega arith)) ∙ rw (drop-cons l i d, add-one)

-- a loop that copies a list to the front of another
pub copy_start : {A : Type 0} (l : List A) (d : A) (o : List A) → length l ≤ length o → Going (put (λ k. get_or l k d)) (length l) 0 o (l ++ drop (length l) o)
copy_start l d o h = let z : 0 + length l ≡ length l = omega arith in rw (tab_get_d l d (length l) 0 z) at (fill_start (λ k. get_or l k d) (length l) o h)

pub tab-map : {A B : Type 0} (f : A → B) (g : ℕ → A) (m i : ℕ) → tab (λ k. f (g k)) m i ≡ map f (tab g m i)
unfolding tab
tab-map f g zero i = refl
tab-map f g (suc m) i = ap (λ r. f (g i) ∷ r) (tab-map f g m (i + 1))

-- a loop that fills a list with f of each entry of another
pub map_start : {A B : Type 0} (f : A → B) (l : List A) (d : A) (o : List B) (n : ℕ) → length l ≡ n → length o ≡ n → Going (put (λ k. f (get_or l k d))) n 0 o (map f l)
map_start f l d o n p q =
    let z : 0 + n ≡ length l = omega arith in
    let h : n ≤ length o = omega arith in
    let e : length o ≤ n = omega arith in
    rw (tab-map f (λ k. get_or l k d) n 0, tab_get_d l d n 0 z, drop_of_length-le o {i = n} e, append-nil) at (fill_start (λ k. f (get_or l k d)) n o h)

pub length-tab : {A : Type 0} (g : ℕ → A) (n i : ℕ) → length (tab g n i) ≡ n
unfolding tab
length-tab g zero i = refl
length-tab g (suc n) i = ap suc (length-tab g n (i + 1))

pub ruleset loops = (rules, start, next, end, seek_start, seek_stop, seek_next, seek_end, stride_start, stride_next, stride_end)
