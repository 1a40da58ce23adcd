-- Places first and errors then, as stages: what each return of the code is, and that both together are the stage of one subinterval
-- after another. Assumes nothing.
use Rattle.std.specs.Prelude.{Result, Ok, Err}
use Prim.Native.Nat.{ℕ, suc, ◌+◌, ◌*◌, ◌/◌, ◌≤◌, ◌<◌}
use mathlib.Core.Path.{◌≡◌, refl, sym, ap, ◌∙◌}
use mathlib.Core.Bool.{true, false}
use mathlib.Core.List.{List, [], ◌∷◌, ◌++◌, map}
use native.Mathlib.Omega.{arith}
use native.Mathlib.Nat.{mul-suc, mul-le-mul_left}
use lib.ListN.{length, get_or, take, drop}
use lib.Seq.{length-take-le, take-take, drop_at}
use lib.Ieee.{Float}
use Rattle.numbers.specs.Floats.{all_finite}
use Rattle.numbers.specs.Loops.{tab}
use Rattle.numbers.specs.Outcome.{Outcome, refused, gave, bind, sweep}
use Rattle.numbers.specs.Refusals.{refusal_number, count_of, few}
use Rattle.numbers.specs.declared.Refusal.{Refusal}
use Rattle.numbers.specs.declared.Refusal.TheVariants as why
use Rattle.numbers.proofs.Given.{gave_same, never_given, bind_given}
use Rattle.chebyshev.specs.Coefficients.{coefficients_for}
use Rattle.colleague.specs.Answer.{colleague_for}
use Rattle.colleague.proofs.Given.{given_bounded}
use Rattle.fir_types.specs.declared.edges.Interval.{Interval}
use Rattle.pruning.specs.declared.candidates.Candidate.{Candidate}
use Rattle.pruning.specs.Candidates.{none, all, view, Framed}
use Rattle.roots.specs.Answer.{roots_for, derivative_roots}
use Rattle.roots.proofs.Given.{roots_few}
use Rattle.extrema.specs.Errors.{Curve, errors_for}
use Rattle.extrema.specs.Candidates.{joined, candidates_for, Stage, Room}
use Rattle.extrema.specs.Proxy.{scaled, derivative}
use Rattle.extrema.specs.Batches.{of_derivative, of_nodes, places_in, mark, marked, Behind, place_of, Tried}
use Rattle.extrema.proofs.StageLaws.{stage_is}
use Rattle.extrema.proofs.ProxyLaws.{length-scaled}
use Rattle.extrema.proofs.BatchLaws.{map-append, swept, view-front, settled_here}

-- ---- behind the first n
module _ {k : ℕ} {f : List Candidate → Outcome (List Candidate)} {n : ℕ} {w w' : List ℕ} where
  pub behind_of : {m : ℕ} → gave (view w' m) ≡ f (view w n) → n ≤ m → m ≤ n + k → view w' n ≡ view w n → length w' ≡ length w → Behind k f n (Ok m) w w'
  behind_of {m} e l h v g = record {
    stage = record { is = e; most = h; long = g };
    front = v;
    least = λ j p. let z : m ≡ j = ap few p in omega (arith, l, z);
  }

  pub behind_stop : {q : Refusal} → refused (refusal_number q) ≡ f (view w n) → view w' n ≡ view w n → length w' ≡ length w → Behind k f n (Err q) w w'
  behind_stop {q} e v g = record {
    stage = record { is = e; most = omega arith; long = g };
    front = v;
    least = λ j p. absurd (never_given (ap (λ r. count_of {A = ℕ} r []) p));
  }

-- what was before those stays too
pub front_stays : {start n : ℕ} (w₀ w w' : List ℕ) → start ≤ n → view w start ≡ view w₀ start → view w' n ≡ view w n → view w' start ≡ view w₀ start
front_stays {start} {n} w₀ w w' h e v = sym (take-take start n (all w') h) ∙ ap (take start) v ∙ take-take start n (all w) h ∙ e

-- ---- places that are put
pub marked_stop : (places : List Float) {k n : ℕ} {w : List ℕ} → all_finite places ≡ false → Behind k (marked places) n (Err why.NotFinite) w w
unfolding marked
marked_stop places e = behind_stop (rw e) refl refl

pub marked_next : (places : List Float) {n : ℕ} {w w' : List ℕ} → all_finite places ≡ true → n + length places ≤ length w / 2 → view w' (n + length places) ≡ view w n ++ map mark places → length w' ≡ length w
    → Behind (length places) (marked places) n (Ok (n + length places)) w w'
unfolding marked
marked_next places {n} {w} {w'} e h v g =
    behind_of (rw e (ap (λ z. gave z) v)) (omega arith) (omega arith) (view-front w w' n (n + length places) (map mark places) (omega arith) (omega arith) v) g

-- places that were found, at most k, and then put as g says
pub found_next : (k : ℕ) {o : Outcome (List Float)} (g : List Float → List Candidate → Outcome (List Candidate)) {places : List Float} {n : ℕ} {r : Result ℕ Refusal} {w w' : List ℕ} → gave places ≡ o → length places ≤ k
    → Behind (length places) (g places) n r w w' → Behind k (λ l. bind o (λ p. g p l)) n r w w'
found_next k g {places} {n} {r} {w} {w'} e h b = record {
  stage = record { is = rw (← e) b.stage.is; most = omega (arith, h, b.stage.most); long = b.stage.long };
  front = b.front;
  least = b.least;
}

-- ---- a turn of a sweep with room for k candidates more at each
turn_room : (k n s i m h : ℕ) → n ≤ s + k * i → i < m → s + k * m ≤ h → n + k ≤ h
turn_room k n s i m h a b c = let z : k * suc i ≤ k * m = mul-le-mul_left k b in omega (arith, mul-suc k i)

-- of the k places that were found: no more than there may be, and room for them
pub turn_fits : (most n start i many k : ℕ) (places : List Float) (w₀ w : List ℕ) → n ≤ start + most * i → i < many → Room (most * many) start w₀ → length w ≡ length w₀ → length places ≡ most → k ≤ most
    → (length (take k places) ≤ most) × Room (length (take k places)) n w × (length (take k places) ≡ k)
turn_fits most n start i many k places w₀ w a h room long p f =
    let z = length-take-le k places (omega arith) in
    let r = turn_room most n start i many (length w₀ / 2) a h room in
    (omega (arith, z), omega (arith, z, r), z)

pub turn_within : (k n s i m : ℕ) → n ≤ s + k * i → i ≤ m → n ≤ s + k * m
turn_within k n s i m a b = let z : k * i ≤ k * m = mul-le-mul_left k b in omega arith

-- ---- errors that are tried
module _ (c : Curve) where
  pub tried_not : {i n : ℕ} {q : Refusal} {w w' : List ℕ} → view w' i ≡ view w i → length w' ≡ length w → Tried c i n (Err q) w w'
  tried_not v g = record { settled = λ e. absurd (cc); front = v; long = g }

  pub tried_here : (w w' : List ℕ) (i m : ℕ) (at e : List Float) → i + m ≤ length w / 2 → at ≡ tab (λ k. place_of (get_or (all w) (i + k) none)) m 0 → gave e ≡ errors_for c at
      → view w' (i + length at) ≡ view w i ++ joined at e → Framed (i + length at) w w' → Tried c i (i + m) (Ok tt) w w'
  tried_here w w' i m at e h p q v f = record {
    settled = λ t. settled_here c w w' i m at e h p q v f;
    front = view-front w w' i (i + length at) (joined at e) (omega arith) (omega arith) v;
    long = f.long;
  }

-- ---- both together
same-places : (p : List Float) (q : List Candidate) (l : List Candidate) → map place_of (l ++ q) ≡ map place_of (l ++ map mark p) → map place_of q ≡ p
same-places p q l e =
    let n = length (map place_of l) in
    let z : map place_of l ++ map place_of q ≡ map place_of l ++ map place_of (map mark p) = sym (map-append place_of l q) ∙ e ∙ map-append place_of l (map mark p) in
    sym (drop_at (map place_of l) (map place_of q) n refl) ∙ ap (drop n) z ∙ drop_at (map place_of l) (map place_of (map mark p)) n refl ∙ unmarked p
  where
    unmarked : (p : List Float) → map place_of (map mark p) ≡ p
    unmarked [] = refl
    unmarked (x ∷ p) = ap (λ r. x ∷ r) (unmarked p)

module _ {A : Type 0} (c : Curve) (place : A → Outcome (List Float)) (f : A → List Candidate → Outcome (List Candidate))
    (short : (v : A) (places : List Float) → place v ≡ gave places → length places ≤ 65)
    (is : (v : A) (places : List Float) (l : List Candidate) → place v ≡ gave places → f v l ≡ candidates_for c places l) where
  pub both_are : (vs : List A) {k s n : ℕ} {r : Result ℕ Refusal} {t : Result Unit Refusal} {w w₁ w₂ : List ℕ} → Behind k (sweep (λ v l. bind (place v) (λ places. marked places l)) vs) s r w w₁ → r ≡ Ok n → Tried c s n t w₁ w₂ → t ≡ Ok tt
      → Stage k (sweep f vs) s (Ok n) w w₂
  both_are vs {k} {s} {n} {r} {t} {w} {w₁} {w₂} b e a h =
      let m = swept c place f short is vs (view w s) (view w₁ n) (sym (stage_is b.stage e)) in
      let z = a.settled h in
      let v : view w₂ n ≡ view w s ++ z.new = z.is ∙ ap (λ l. l ++ z.new) b.front in
      let p : map place_of (view w s ++ z.new) ≡ map place_of (view w s ++ map mark m.places) = ap (map place_of) (sym v) ∙ z.places ∙ ap (map place_of) m.are in
      let most = b.stage.most in
      record {
        is = ap (λ l. gave l) v ∙ sym (m.all (view w s) z.new (same-places m.places z.new (view w s) p) z.right);
        most = rw e at most;
        long = a.long ∙ b.stage.long;
      }

-- ---- and where something is refused: one after another, from the same candidates
pub stage_again : {k n : ℕ} {f : List Candidate → Outcome (List Candidate)} {r : Result ℕ Refusal} {w w₁ w₂ : List ℕ} → view w₁ n ≡ view w n → length w₁ ≡ length w → Stage k f n r w₁ w₂ → Stage k f n r w w₂
stage_again e g a = record { is = rw e at a.is; most = a.most; long = a.long ∙ g }

-- ---- how many places a subinterval has
pub ends_few : (v : Interval) (places : List Float) → gave (v.begin ∷ v.end ∷ []) ≡ gave places → length places ≤ 2
ends_few v places e = let z : 2 ≡ length places = ap length (gave_same e) in omega arith

module _ (c : Curve) where
  pub places_few : (nodes : List Float) (v : Interval) (places : List Float) → places_in c nodes v ≡ gave places → length places ≤ 15
  unfolding places_in of_nodes
  places_few nodes v places q =
      let e = bind_given (errors_for c (scaled v nodes)) (of_nodes v) q in
      let a = bind_given (coefficients_for e.value (length e.value)) (of_derivative v) e.rest in
      let r = bind_given (derivative_roots (derivative a.value) 15) (λ r. gave (scaled v r)) a.rest in
      let m = bind_given (colleague_for (derivative a.value)) (λ m. roots_for m 15) r.given in
      let b = (given_bounded (derivative a.value) m.value m.given).size in
      let f = roots_few m.value 15 r.value m.rest in
      let z : length places ≡ length r.value = ap length (sym (gave_same r.rest)) ∙ length-scaled v r.value in
      omega (arith, z, f, b)
