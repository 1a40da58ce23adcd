-- Candidates worked out many at a time are those worked out one subinterval after another, where nothing is refused: the error at a
-- place depends on that place alone. Assumes nothing.
use Prim.Native.Nat.{ℕ, zero, suc, ◌+◌, ◌-◌, ◌/◌, ◌≤◌, ◌<◌}
use mathlib.Core.Path.{◌≡◌, refl, sym, ap, ◌∙◌}
use mathlib.Core.Bool.{true, ◌&&◌}
use mathlib.Core.List.{List, [], ◌∷◌, ◌++◌, map, append_assoc, append-nil}
use native.Mathlib.Omega.{arith}
use native.Mathlib.Nat.{zero-add, not-suc-le-zero, le_of_suc-le-suc}
use borrow.Author.Tests.{le-leb, ne_eqb}
use lib.Dec.{leb}
use lib.ListN.{length, get_or, take, drop, replicate, length-map, length-drop, get_or-map, take-append-drop}
use lib.Seq.{take_at, drop_at, take-take, take-add, length-take-le, get_or-take, get_or-drop}
use lib.Ieee.{Float, nan, of_bits}
use lib.Ieee.Scale.{finite}
use Rattle.numbers.specs.Floats.{zero64, all_finite}
use Rattle.numbers.specs.Loops.{tab}
use Rattle.numbers.specs.Outcome.{Outcome, gave, bind, sweep, gather}
use Rattle.numbers.proofs.Order.{and_1, and_2}
use Rattle.numbers.proofs.LoopLaws.{length-tab, tab-map}
use Rattle.numbers.proofs.Lanes.{tab-same, tab-get, tab-own}
use Rattle.numbers.proofs.InPlace.{map-tab}
use Rattle.numbers.proofs.FiniteLaws.{finite_at}
use Rattle.numbers.proofs.Given.{gave_same, unless_given, bind_given, gather-at}
use Rattle.numbers.proofs.MapLaws.{map_take}
use Rattle.barycentric.specs.Limits.{sized, three_alike, three_finite}
use Rattle.barycentric.specs.Response.{response_of, responses_of, responses_for}
use Rattle.barycentric.proofs.Given.{responses_given}
use Rattle.pruning.specs.declared.candidates.Candidate.{Candidate}
use Rattle.pruning.specs.Candidates.{none, all, view, Framed}
use Rattle.pruning.proofs.ViewLaws.{length-all, length-view, framed_same, framed_then, framed_more, framed_all}
use Rattle.extrema.specs.Errors.{Curve, error_from, errors_from, errors_for}
use Rattle.extrema.specs.Candidates.{candidate, joined, candidates_for}
use Rattle.extrema.specs.Extrema.{error_of}
use Rattle.extrema.specs.Batches.{mark, marked, place_of, Right, EachRight, Settled}

-- ---- lists by their entries
finite_all : (l : List Float) → ((k : ℕ) → k < length l → finite (get_or l k nan) ≡ true) → all_finite l ≡ true
unfolding all_finite
finite_all [] h = refl
finite_all (x ∷ l) h = let z : finite x ≡ true = h 0 (omega arith) in rw z (finite_all l (λ k p. h (suc k) (omega arith)))

gather_of : {A : Type 0} (g : ℕ → Outcome A) (l : List A) (d : A) (n i : ℕ) → length l ≡ n → ((k : ℕ) → k < n → g (i + k) ≡ gave (get_or l k d)) → gather g n i ≡ gave l
unfolding gather
gather_of g [] d zero i e h = refl
gather_of g [] d (suc n) i e h = absurd (let z : 0 ≡ suc n = e in omega arith)
gather_of g (x ∷ l) d zero i e h = absurd (let z : suc (length l) ≡ 0 = e in omega arith)
gather_of g (x ∷ l) d (suc n) i e h =
    let z : i + 0 ≡ i = omega arith in
    let first : g i ≡ gave x = ap g (sym z) ∙ h 0 (omega arith) in
    let rest : gather g n (i + 1) ≡ gave l = gather_of g l d n (i + 1) (let q : suc (length l) ≡ suc n = e in omega arith) (λ k p. let s : i + 1 + k ≡ i + suc k = omega arith in ap g s ∙ h (suc k) (omega arith)) in
    rw (first, rest)

pub map-append : {A B : Type 0} (f : A → B) (p q : List A) → map f (p ++ q) ≡ map f p ++ map f q
map-append f [] q = refl
map-append f (x ∷ p) q = ap (λ r. f x ∷ r) (map-append f p q)

map-drop : {A B : Type 0} (f : A → B) (n : ℕ) (l : List A) → map f (drop n l) ≡ drop n (map f l)
map-drop f zero l = refl
map-drop f (suc n) [] = refl
map-drop f (suc n) (x ∷ l) = map-drop f n l

-- a list of nothing but candidates that are not there
abbrev blank : Candidate
blank = candidate nan nan

place_at : (q : List Candidate) (k : ℕ) → get_or (map place_of q) k nan ≡ place_of (get_or q k blank)
place_at q k = get_or-map place_of q k blank

error_at_lem : (q : List Candidate) (k : ℕ) → get_or (map error_of q) k nan ≡ error_of (get_or q k blank)
error_at_lem q k = get_or-map error_of q k blank

-- candidates are their places joined to their errors
pub joined-own : (q : List Candidate) → joined (map place_of q) (map error_of q) ≡ q
joined-own q =
    ap (λ n. tab (λ i. candidate (get_or (map place_of q) i nan) (get_or (map error_of q) i nan)) n 0) (length-map q place_of)
    ∙ tab-same (λ i. candidate (get_or (map place_of q) i nan) (get_or (map error_of q) i nan)) (λ i. get_or q i blank) (length q) 0
    (λ k a b. (λ j. candidate (place_at q k j) (error_at_lem q k j)))
    ∙ sym (tab-own q blank (length q) refl)

-- places joined to errors that are still to come
pub zeros_finite : (n m : ℕ) → all_finite (take n (replicate m zero64)) ≡ true
unfolding all_finite of_bits
zeros_finite zero m = refl
zeros_finite (suc n) zero = refl
zeros_finite (suc n) (suc m) = zeros_finite n m

zero_at : (n m k : ℕ) → k < n → n ≤ m → get_or (take n (replicate m zero64)) k nan ≡ zero64
zero_at zero m k h q = elim h [ ]
zero_at (suc n) zero k h q = absurd (omega arith)
zero_at (suc n) (suc m) zero h q = refl
zero_at (suc n) (suc m) (suc k) h q = zero_at n m k (omega arith) (omega arith)

pub joined-zeros : (places : List Float) (m : ℕ) → length places ≤ m → joined places (take (length places) (replicate m zero64)) ≡ map mark places
joined-zeros places m h =
    let n = length places in
    tab-same (λ i. candidate (get_or places i nan) (get_or (take n (replicate m zero64)) i nan)) (λ i. mark (get_or places i nan)) n 0
    (λ k a b. ap (candidate (get_or places k nan)) (zero_at n m k (omega arith) h))
    ∙ sym (map-tab mark places nan)

-- ---- what an error at a place tells and asks for, all else alike
module _ (c : Curve) where
  abbrev response_at : Float → Float
  response_at x0 = response_of x0 c.x c.weights c.abscissas

  abbrev error_alone : Float → Outcome Float
  error_alone x0 = error_from c.plan c.symmetry c.odd x0 (response_at x0)

  record Alone (x0 e : Float) : Type 0 where
    alike : three_alike (length c.x) (length c.weights) (length c.abscissas) ≡ true
    given : three_finite c.x c.weights c.abscissas ≡ true
    place : finite x0 ≡ true
    response : finite (response_at x0) ≡ true
    error : error_alone x0 ≡ gave e

  responses_at : (places : List Float) (k : ℕ) → k < length places → get_or (responses_of places c.x c.weights c.abscissas) k nan ≡ response_at (get_or places k nan)
  unfolding responses_of
  responses_at places k h = tab-get (λ i. response_at (get_or places i nan)) (length places) k nan h

  length_responses : (places : List Float) → length (responses_of places c.x c.weights c.abscissas) ≡ length places
  unfolding responses_of
  length_responses places = length-tab (λ i. response_at (get_or places i nan)) (length places) 0

  alone_at : (places e : List Float) → errors_for c places ≡ gave e → (k : ℕ) → k < length places → Alone (get_or places k nan) (get_or e k nan)
  unfolding errors_for
  alone_at places e q k h =
      let m = length places in
      let b = bind_given (responses_for places c.x c.weights c.abscissas m) (errors_from c.plan c.symmetry c.odd places) q in
      let r = responses_given places c.x c.weights c.abscissas m b.value b.given in
      let alike = three_alike (length c.x) (length c.weights) (length c.abscissas) in
      let three = three_finite c.x c.weights c.abscissas in
      let at : get_or b.value k nan ≡ response_at (get_or places k nan) = ap (λ l. get_or l k nan) r.answer.are ∙ responses_at places k h in
      let long : length b.value ≡ m = ap length r.answer.are ∙ length_responses places in
      let g : ℕ → Outcome Float = λ i. error_from c.plan c.symmetry c.odd (get_or places i nan) (get_or b.value i nan) in
      let z : g (0 + k) ≡ gave (get_or e k nan) = gather-at g m 0 e k nan b.rest h in
      let y : error_from c.plan c.symmetry c.odd (get_or places k nan) (get_or b.value k nan) ≡ gave (get_or e k nan) = rw zero-add at z in
      record {
        alike = and_2 (sized m) alike (and_1 (sized m && alike) (leb m m) r.sizes);
        given = and_2 (all_finite places) three r.inputs;
        place = finite_at places k (and_1 (all_finite places) three r.inputs) h;
        response = rw (← at) (finite_at b.value k r.answer.all_finite_fact (omega (arith, long)));
        error = rw (← at) y;
      }

  each_alone : (places e : List Float) → 1 ≤ length places → length places ≤ 65 → length e ≡ length places → ((k : ℕ) → k < length places → Alone (get_or places k nan) (get_or e k nan)) → errors_for c places ≡ gave e
  unfolding errors_for responses_for
  each_alone places e some most long h =
      let m = length places in
      let y = responses_of places c.x c.weights c.abscissas in
      let a = h 0 (omega arith) in
      let finite-places : all_finite places ≡ true = finite_all places (λ k p. (h k p).place) in
      let finite-responses : all_finite y ≡ true =
      finite_all y (λ k p. let l : k < length places = omega (arith, length_responses places) in rw (responses_at places k l) (h k l).response)
      in
      rw (le-leb 1 m some, le-leb m 65 most, a.alike, le-leb m m (omega arith), finite-places, a.given, length_responses places, le-leb m m (omega arith), finite-responses)
      (gather_of (λ i. error_from c.plan c.symmetry c.odd (get_or places i nan) (get_or y i nan)) e nan m 0 long
      (λ k p. rw (zero-add, responses_at places k p) (h k p).error))

  alone_right : (k : Candidate) → Alone k.x k.error → Right c k
  alone_right k a = each_alone (k.x ∷ []) (k.error ∷ []) (omega arith) (omega arith) refl pick
    where
      pick : (j : ℕ) → j < 1 → Alone (get_or (k.x ∷ []) j nan) (get_or (k.error ∷ []) j nan)
      pick zero h = a
      pick (suc j) h = absurd (omega arith)

  right_alone : (k : Candidate) → Right c k → Alone k.x k.error
  right_alone k r = alone_at (k.x ∷ []) (k.error ∷ []) r 0 (omega arith)

  -- ---- each of a list
  right_at : (q : List Candidate) → EachRight c q → (i : ℕ) → i < length q → Right c (get_or q i blank)
  unfolding EachRight
  right_at [] r i h = absurd (not-suc-le-zero h)
  right_at (k ∷ q) r zero h = r.0
  right_at (k ∷ q) r (suc i) h = right_at q r.1 i (le_of_suc-le-suc h)

  right_tab : (g : ℕ → Candidate) (n i : ℕ) → ((k : ℕ) → i ≤ k → k < i + n → Right c (g k)) → EachRight c (tab g n i)
  unfolding EachRight tab
  right_tab g zero i h = tt
  right_tab g (suc n) i h = (h i (omega arith) (omega arith), right_tab g n (i + 1) (λ k p q. h k (omega arith) (omega arith)))

  pub right_append : (p q : List Candidate) → EachRight c p → EachRight c q → EachRight c (p ++ q)
  unfolding EachRight
  right_append [] q r s = s
  right_append (k ∷ p) q r s = (r.0, right_append p q r.1 s)

  pub right_take : (n : ℕ) (q : List Candidate) → EachRight c q → EachRight c (take n q)
  unfolding EachRight
  right_take zero q r = tt
  right_take (suc n) [] r = tt
  right_take (suc n) (k ∷ q) r = (r.0, right_take n q r.1)

  pub right_drop : (n : ℕ) (q : List Candidate) → EachRight c q → EachRight c (drop n q)
  unfolding EachRight
  right_drop zero q r = r
  right_drop (suc n) [] r = tt
  right_drop (suc n) (k ∷ q) r = right_drop n q r.1

  -- errors that were given together are each that of its place; and errors that are each that of its place are given together
  pub errors_right : (places e : List Float) → errors_for c places ≡ gave e → EachRight c (joined places e)
  errors_right places e q =
      right_tab (λ i. candidate (get_or places i nan) (get_or e i nan)) (length places) 0
      (λ k a h. alone_right (candidate (get_or places k nan) (get_or e k nan)) (alone_at places e q k (rw zero-add at h)))

  pub right_errors : (q : List Candidate) → 1 ≤ length q → length q ≤ 65 → EachRight c q → errors_for c (map place_of q) ≡ gave (map error_of q)
  right_errors q some most r =
      let l = length-map q place_of in
      let e = length-map q error_of in
      each_alone (map place_of q) (map error_of q) (omega (arith, l)) (omega (arith, l)) (e ∙ sym l)
      (λ k h. rw (place_at q k, error_at_lem q k) (right_alone (get_or q k blank) (right_at q r k (rw l at h))))

  pub right_candidates : (q l : List Candidate) → length q ≤ 65 → EachRight c q → candidates_for c (map place_of q) l ≡ gave (l ++ q)
  unfolding candidates_for
  right_candidates [] l most r = rw append-nil
  right_candidates (k ∷ q) l most r =
      let e = right_errors (k ∷ q) (omega arith) most r in
      let z : length (map place_of (k ∷ q)) ≡ 0 → ⊥ = λ h. omega (arith, length-map (k ∷ q) place_of) in
      rw (ne_eqb (length (map place_of (k ∷ q))) 0 z, e, joined-own (k ∷ q))

-- ---- places put one subinterval after another, and errors at all of them: what one subinterval after another gives
pub record Swept {A : Type 0} (c : Curve) (f : A → List Candidate → Outcome (List Candidate)) (vs : List A) (s t : List Candidate) : Type 0 where
  pub places : List Float
  pub are : t ≡ s ++ map mark places
  pub all : (l q : List Candidate) → map place_of q ≡ places → EachRight c q → sweep f vs l ≡ gave (l ++ q)

module _ {A : Type 0} (c : Curve) (place : A → Outcome (List Float)) (f : A → List Candidate → Outcome (List Candidate))
    (few : (v : A) (places : List Float) → place v ≡ gave places → length places ≤ 65)
    (is : (v : A) (places : List Float) (l : List Candidate) → place v ≡ gave places → f v l ≡ candidates_for c places l) where
  pub swept : (vs : List A) (s t : List Candidate) → sweep (λ v l. bind (place v) (λ places. marked places l)) vs s ≡ gave t → Swept c f vs s t
  unfolding sweep marked
  swept [] s t e = record {
    places = [];
    are = sym (gave_same e) ∙ sym (append-nil s);
    all = none;
  }
    where
      none : (l q : List Candidate) → map place_of q ≡ [] → EachRight c q → sweep f [] l ≡ gave (l ++ q)
      none l [] h r = rw append-nil
      none l (k ∷ q) h r = absurd (let z : suc (length (map place_of q)) ≡ 0 = ap length h in omega arith)
  swept (v ∷ vs) s t e =
      let b = bind_given (bind (place v) (λ places. marked places s)) (sweep (λ v l. bind (place v) (λ places. marked places l)) vs) e in
      let p = bind_given (place v) (λ places. marked places s) b.given in
      let m = unless_given (all_finite p.value) 9 (gave (s ++ map mark p.value)) p.rest in
      let r = swept vs b.value t b.rest in
      record {
        places = p.value ++ r.places;
        are = r.are ∙ ap (λ z. z ++ map mark r.places) (sym (gave_same m.rest)) ∙ append_assoc s (map mark p.value) (map mark r.places) ∙ ap (λ z. s ++ z) (sym (map-append mark p.value r.places));
        all = next p.value (few v p.value p.given) (λ l. is v p.value l p.given) r;
      }
    where
      next : (ps : List Float) → length ps ≤ 65 → ((l : List Candidate) → f v l ≡ candidates_for c ps l) → {s t : List Candidate} (r : Swept c f vs s t)
          → (l q : List Candidate) → map place_of q ≡ ps ++ r.places → EachRight c q → sweep f (v ∷ vs) l ≡ gave (l ++ q)
      next ps most at r l q h right =
          let k = length ps in
          let a : map place_of (take k q) ≡ ps = map_take place_of k q ∙ ap (take k) h ∙ take_at ps r.places k refl in
          let b : map place_of (drop k q) ≡ r.places = map-drop place_of k q ∙ ap (drop k) h ∙ drop_at ps r.places k refl in
          let n : length (take k q) ≤ 65 = let z : length (take k q) ≡ k = sym (length-map (take k q) place_of) ∙ ap length a in omega arith in
          let first : f v l ≡ gave (l ++ take k q) = at l ∙ ap (λ z. candidates_for c z l) (sym a) ∙ right_candidates c (take k q) l n (right_take c k q right) in
          let rest : sweep f vs (l ++ take k q) ≡ gave ((l ++ take k q) ++ drop k q) = r.all (l ++ take k q) (drop k q) b (right_drop c k q right) in
          rw first (rest ∙ ap (λ z. gave z) (append_assoc l (take k q) (drop k q) ∙ ap (λ z. l ++ z) (take-append-drop k q)))

-- ---- the first i of a longer view
pub view-front : (w w' : List ℕ) (i n : ℕ) (q : List Candidate) → i ≤ n → i ≤ length w / 2 → view w' n ≡ view w i ++ q → view w' i ≡ view w i
view-front w w' i n q h k e = sym (take-take i n (all w') h) ∙ ap (take i) e ∙ take_at (view w i) q i (length-view w i k)

-- ---- the errors of some candidates where they stand
part_places : (l : List Candidate) (i m : ℕ) → i + m ≤ length l → tab (λ k. place_of (get_or l (i + k) none)) m 0 ≡ map place_of (take m (drop i l))
part_places l i m h =
    let n : length (take m (drop i l)) ≡ m = length-take-le m (drop i l) (omega (arith, length-drop i l)) in
    sym
    (map-tab place_of (take m (drop i l)) none
    ∙ ap (λ z. tab (λ k. place_of (get_or (take m (drop i l)) k none)) z 0) n
    ∙ tab-same (λ k. place_of (get_or (take m (drop i l)) k none)) (λ k. place_of (get_or l (i + k) none)) m 0
    (λ k a b. ap place_of (get_or-take m (drop i l) k none (rw zero-add at b) ∙ get_or-drop i l k none)))

joined-places : (at e : List Float) → map place_of (joined at e) ≡ at
joined-places at e =
    sym (tab-map place_of (λ i. candidate (get_or at i nan) (get_or e i nan)) (length at) 0) ∙ sym (tab-own at nan (length at) refl)

module _ (c : Curve) where
  pub settled_here : (w w' : List ℕ) (i m : ℕ) (at e : List Float) → i + m ≤ length w / 2 → at ≡ tab (λ k. place_of (get_or (all w) (i + k) none)) m 0 → gave e ≡ errors_for c at
      → view w' (i + length at) ≡ view w i ++ joined at e → Framed (i + length at) w w' → Settled c i (i + m) w w'
  settled_here w w' i m at e h p q v f =
      let long : length at ≡ m = ap length p ∙ length-tab (λ k. place_of (get_or (all w) (i + k) none)) m 0 in
      let v' : view w' (i + m) ≡ view w i ++ joined at e = ap (λ k. view w' (i + k)) (sym long) ∙ v in
      let part : at ≡ map place_of (take m (drop i (all w))) = p ∙ part_places (all w) i m (omega (arith, length-all w)) in
      record {
        new = joined at e;
        is = v';
        right = errors_right c at e (sym q);
        places =
            ap (map place_of) v'
            ∙ map-append place_of (view w i) (joined at e)
            ∙ ap (λ z. map place_of (view w i) ++ z) (joined-places at e ∙ part)
            ∙ sym (map-append place_of (view w i) (take m (drop i (all w))))
            ∙ ap (map place_of) (sym (take-add i m (all w)));
        framed = rw long at f;
      }

  pub settled_none : (i : ℕ) (w : List ℕ) → Settled c i i w w
  unfolding EachRight
  settled_none i w = record { new = []; is = sym (append-nil (view w i)); right = tt; places = refl; framed = framed_same i w }

  pub settled_then : {s i j : ℕ} {w₀ w w' : List ℕ} → i ≤ j → Settled c s i w₀ w → Settled c i j w w' → Settled c s j w₀ w'
  settled_then {s} {i} {j} {w₀} {w} {w'} h a b =
      let k : j ≡ i + (j - i) = omega arith in
      let more : (u : List ℕ) → view u j ≡ view u i ++ take (j - i) (drop i (all u)) = λ u. ap (λ z. view u z) k ∙ take-add i (j - i) (all u) in
      record {
        new = a.new ++ b.new;
        is = b.is ∙ ap (λ z. z ++ b.new) a.is ∙ append_assoc (view w₀ s) a.new b.new;
        right = right_append c a.new b.new a.right b.right;
        places =
            b.places
            ∙ ap (map place_of) (more w)
            ∙ map-append place_of (view w i) (take (j - i) (drop i (all w)))
            ∙ ap (λ z. z ++ map place_of (take (j - i) (drop i (all w)))) a.places
            ∙ ap (λ z. map place_of (view w₀ i) ++ map place_of (take (j - i) z)) (framed_all i w₀ w a.framed)
            ∙ sym (map-append place_of (view w₀ i) (take (j - i) (drop i (all w₀))))
            ∙ ap (map place_of) (sym (more w₀));
        framed = framed_then j w₀ w w' (framed_more j i w₀ w h a.framed) b.framed;
      }
