-- The chain of an exchange: what each return of the code is in it. Assumes nothing.
use Prim.Native.Nat.{ℕ, ◌-◌, ◌≤◌, ◌<◌}
use mathlib.Core.Path.{◌≡◌, sym, ap, ◌∙◌}
use mathlib.Core.Bool.{◌&&◌}
use mathlib.Core.List.{List, ◌++◌}
use native.Mathlib.Omega.{arith}
use lib.ListN.{length, get_or, take, drop, replicate}
use lib.Seq.{take_at}
use lib.Dec.{leb}
use borrow.Author.Tests.{le-leb, lt-leb, leb-true}
use lib.Ieee.{Float, nan}
use Rattle.numbers.specs.Floats.{zero64}
use Rattle.numbers.specs.Loops.{tab}
use Rattle.numbers.specs.Outcome.{Outcome, refused, gave, bind, unless}
use Rattle.numbers.proofs.Given.{Linked, gave_same, never_given, unless_given, bind_given}
use Rattle.numbers.proofs.OutcomeLaws.{bind_next, bind_stop}
use Rattle.numbers.proofs.LoopLaws.{length-tab}
use Rattle.numbers.proofs.Lanes.{tab-same}
use Rattle.pruning.specs.declared.candidates.Candidate.{Candidate}
use Rattle.pruning.specs.Candidates.{none}
use Rattle.fir_types.specs.Edges.{Edges}
use Rattle.fir_types.specs.declared.edges.Interval.{Interval}
use Rattle.subdivision.specs.Subdivide.{Intervals}
use Rattle.subdivision.specs.Subdivide.{subdivide_for}
use Rattle.extrema.specs.Extrema.{Kept}
use Rattle.extrema.specs.Errors.{Curve}
use Rattle.extrema.specs.Extrema.{extrema_of, extrema_in, extrema_for, intervals_of, packed}
use Rattle.extrema.proofs.Facts.{extrema_given}
use Rattle.fields.specs.declared.held.Fields.{Fields}
use Rattle.fields.specs.declared.interpolant.Interpolant.{Interpolant}
use Rattle.fields.specs.Request.{points_of, request_for}
use Rattle.fields.specs.Interpolant.{radians_of, padded, answered}
use Rattle.fields.specs.Accept.{accept_of, accept_for}
use Rattle.fields.specs.Facts.{AcceptedFacts}
use Rattle.fields.proofs.Facts.{request_few, accepted}
use Rattle.fields.proofs.RequestLaws.{exchanges_most}
use Rattle.numbers.proofs.Order.{and_1}
use Rattle.numbers.proofs.Fronts.{padded_lent}
use Rattle.exchange.specs.Bands.{bands_in_x}
use Rattle.exchange.specs.Flatness.{flatness_of}
use Rattle.exchange.specs.Exchange.{falling_of, moved, renewed, curve_of, exchanged_in, exchanged_over, exchanged_at, exchanged}
use Rattle.exchange.specs.Job.{Standing, running, done, failed, Held, job_for, interpolation_in}
use Rattle.exchange.specs.Step.{ready_by, ready_for, settled, stepped_by, step_of}
use Rattle.exchange.proofs.JobLaws.{refused_same, unanswered, answered_alone}
use Rattle.exchange.proofs.DesignLaws.{job_accepted, answered_back}
use Rattle.exchange.proofs.SpreadLaws.{get_d_before}

-- intervals at the front of an array
abbrev edges : List Interval → Edges
edges l = Rattle.fir_types.specs.Edges.packed l

-- ---- the places of candidates, the last first
abbrev pub from_last_lem : List Candidate → ℕ → Float
from_last_lem list k = (get_or list (length list - 1 - k) (record { x = nan; error = nan })).x

pub falling_is : (list : List Candidate) → tab (from_last_lem list) (length list) 0 ++ drop (length list) (replicate 65 zero64) ≡ padded (falling_of list)
falling_is list =
    let n = length list in
    let same : tab (from_last_lem list) n 0 ≡ falling_of list =
    tab-same (from_last_lem list) (λ i. (get_or list (n - 1 - i) none).x) n 0
    (λ k a b. ap (λ c. c.x) (get_d_before list (n - 1 - k) (record { x = nan; error = nan }) none (omega (arith, b))))
    in
    padded_lent 65 zero64 n (tab (from_last_lem list) n 0) (length-tab (from_last_lem list) n 0) ∙ ap padded same

-- ---- the next job, accepted or not
module _ (j : Fields) (l : List Candidate) where
  pub unrenewed : {n : ℕ} → refused n ≡ flatness_of l → refused n ≡ renewed j l
  unfolding renewed
  unrenewed e = bind_stop _ e

  module _ {f : Float} (next : Fields) (e : next ≡ moved j l f) (g : gave f ≡ flatness_of l) where
    pub renewed_is : {a : Interpolant} → gave a ≡ accept_for next → gave next ≡ renewed j l
    unfolding renewed
    renewed_is h = bind_next (λ f. bind (accept_of (moved j l f)) (λ _. gave (moved j l f))) g (answered_alone (accept_of next) next h ∙ ap (λ (n : Fields). bind (accept_of n) (λ _. gave n)) e)

    pub unaccepted : {n : ℕ} → refused n ≡ accept_for next → refused n ≡ renewed j l
    unfolding renewed
    unaccepted h = bind_next (λ f. bind (accept_of (moved j l f)) (λ _. gave (moved j l f))) g (bind_stop _ (rw e at (unanswered (accept_of next) h)))

-- ---- what the search gives: the kept candidates at the front of an array
extrema_of_lem : (c : Curve) (v : Intervals) (degree n : ℕ) (l : List Candidate) → extrema_in c v degree n ≡ gave l → length l ≡ n
unfolding extrema_in
extrema_of_lem c v degree n l e =
    let o = extrema_of c (intervals_of v) degree n in
    let a = unless_given (leb v.count 73 && leb n 65) 15 (unless (leb 2 degree && leb degree 16) 5 o) e in
    let b = unless_given (leb 2 degree && leb degree 16) 5 o a.rest in
    (extrema_given c (intervals_of v) degree n l b.rest).count

front_given : (c : Curve) (v : Intervals) (degree n : ℕ) (k : Kept) → gave k ≡ bind (extrema_in c v degree n) (λ l. gave (packed l))
    → gave (take n k.list) ≡ extrema_in c v degree n
front_given c v degree n k e =
    let a = bind_given (extrema_in c v degree n) (λ l. gave (packed l)) (sym e) in
    let z : packed a.value ≡ k = gave_same a.rest in
    ap (λ (q : Kept). gave (take n q.list)) (sym z)
    ∙ ap (λ l. gave l) (take_at a.value _ n (extrema_of_lem c v degree n a.value a.given))
    ∙ sym a.given

unfound : {n : ℕ} (o : Outcome (List Candidate)) → refused n ≡ bind o (λ l. gave (packed l)) → refused n ≡ o
unfound (refused m) e = ap refused (refused_same e)
unfound (gave l) e = absurd (never_given e)

module _ (j : Fields) (x w y : List Float) (v : Intervals) (n words : ℕ) (m : n ≡ points_of j.request) (h : 2482 ≤ words) where
  within : extrema_in (curve_of j.request x w y) v j.request.degree n ≡ extrema_for (curve_of j.request x w y) v j.request.degree n words
  unfolding extrema_for
  within = rw (le-leb 2482 words h)

  pub kept_is : {k : Kept} {z : Outcome Fields} → gave k ≡ bind (extrema_for (curve_of j.request x w y) v j.request.degree n words) (λ l. gave (packed l)) → z ≡ renewed j (take n k.list) → z ≡ exchanged_in j x w y v
  kept_is {k} a e =
      let g = front_given (curve_of j.request x w y) v j.request.degree n k (rw (← within) at a) in
      bind_next (renewed j) (rw m at g) (rw m at e)

  pub unkept : {q : ℕ} → refused q ≡ bind (extrema_for (curve_of j.request x w y) v j.request.degree n words) (λ l. gave (packed l)) → refused q ≡ exchanged_in j x w y v
  unkept a = bind_stop (renewed j) (rw m at (unfound (extrema_in (curve_of j.request x w y) v j.request.degree n) (rw (← within) at a)))

-- ---- the bands of an accepted request
unpacked : {n : ℕ} (o : Outcome (List Interval)) → refused n ≡ bind o (λ l. gave (edges l)) → refused n ≡ o
unpacked (refused m) e = ap refused (refused_same e)
unpacked (gave l) e = absurd (never_given e)

module _ (j : Fields) (x w y : List Float) where
  pub unbanded : {n : ℕ} → refused n ≡ bind (request_for j.request) (λ l. gave (edges l)) → refused n ≡ exchanged_at j x w y
  unfolding exchanged_at
  unbanded e = bind_stop _ (unpacked (request_for j.request) e)

  module _ (b s : Edges) (e : gave b ≡ bind (request_for j.request) (λ l. gave (edges l))) (radians : s ≡ radians_of b) where
    banded : Linked (request_for j.request) (λ l. gave (edges l)) b
    banded = bind_given (request_for j.request) (λ l. gave (edges l)) (sym e)

    packed_is : edges banded.value ≡ b
    packed_is = gave_same banded.rest

    pub bands_few : s.count ≤ 8
    bands_few = rw (radians, ← packed_is) (request_few j.request banded.value banded.given).most

    turned_at : bind (bands_in_x s) (exchanged_over j x w y) ≡ exchanged_at j x w y
    unfolding exchanged_at
    turned_at =
        ap (λ (z : Edges). bind (bands_in_x z) (exchanged_over j x w y)) (radians ∙ ap radians_of (sym packed_is))
        ∙ ap (λ o. bind o (λ l. bind (bands_in_x (radians_of (edges l))) (exchanged_over j x w y))) (sym banded.given)

    pub unturned : {n : ℕ} → refused n ≡ bands_in_x s → refused n ≡ exchanged_at j x w y
    unturned h = bind_stop (exchanged_over j x w y) h ∙ turned_at

    pub uncut : {n : ℕ} (t : Edges) → gave t ≡ bands_in_x s → refused n ≡ subdivide_for x t → refused n ≡ exchanged_at j x w y
    uncut t h k = bind_next (exchanged_over j x w y) h (bind_stop (exchanged_in j x w y) k) ∙ turned_at

    pub over_is : {z : Outcome Fields} (t : Edges) {v : Intervals} → gave t ≡ bands_in_x s → gave v ≡ subdivide_for x t → z ≡ exchanged_in j x w y v → z ≡ exchanged_at j x w y
    over_is t h k e = bind_next (exchanged_over j x w y) h (bind_next (exchanged_in j x w y) k e) ∙ turned_at

-- ---- the step, by what the loaded job is
module _ (j : Held) (words : ℕ) where
  pub step_short : words < 2482 → step_of j words ≡ record { job = j; answer = refused 1 }
  unfolding step_of ready_for
  step_short h = rw (lt-leb 2482 words h)

  ready : 2482 ≤ words → ready_for j words ≡ bind (job_for j) (ready_by j.standing)
  unfolding ready_for
  ready h = rw (le-leb 2482 words h)

  pub step_words : (more : ℕ) → 2482 ≤ words → 2482 ≤ more → step_of j words ≡ step_of j more
  unfolding step_of ready_for
  step_words more h k = rw (le-leb 2482 words h, le-leb 2482 more k)

  module _ (h : 2482 ≤ words) where
    pub step_unloaded : {n : ℕ} → refused n ≡ bind (job_for j) (λ i. gave (answered i)) → record { job = j; answer = refused n } ≡ step_of j words
    unfolding step_of
    step_unloaded e = rw (ready h, ← unanswered (job_for j) e)

    module _ (a : Interpolant) (loaded : gave a ≡ bind (job_for j) (λ i. gave (answered i))) where
      job : Linked (job_for j) (λ i. gave (answered i)) a
      job = bind_given (job_for j) (λ i. gave (answered i)) (sym loaded)

      standing_is : {t : Standing} → j.standing ≡ t → ready_for j words ≡ ready_by t job.value
      standing_is s = ready h ∙ ap (λ o. bind o (ready_by j.standing)) job.given ∙ ap (λ (z : Standing). ready_by z job.value) s

      pub step_finished : j.standing ≡ done → record { job = j; answer = refused 3 } ≡ step_of j words
      unfolding step_of
      step_finished s = sym (ap (stepped_by j) (standing_is s))

      pub step_failed : {n : ℕ} → j.standing ≡ failed n → record { job = j; answer = refused n } ≡ step_of j words
      unfolding step_of
      step_failed s = sym (ap (stepped_by j) (standing_is s))

      module _ (points : length j.fields.points ≡ 65) where
        facts : AcceptedFacts j.fields job.value
        facts = accepted j.fields job.value points (job_accepted j job.value job.given)

        pub runnable : (a.count ≤ 65) × (points_of j.fields.request ≤ 65) × (j.fields.made ≤ 100)
        runnable =
            let i = job.value in
            let made : j.fields.made ≤ j.fields.request.exchanges =
            leb-true j.fields.made j.fields.request.exchanges (and_1 (leb j.fields.made j.fields.request.exchanges) _ facts.counts)
            in
            let z : (answered i).count ≤ 65 = omega (arith, facts.interpolates.placed.x_many, facts.points_most) in
            (rw (← gave_same job.rest) z, facts.points_most, omega (arith, made, exchanges_most j.fields.request facts.range))

        pub step_runs : j.standing ≡ running
            → settled j (exchanged_at j.fields (take a.count a.points) (take a.count a.weights) (take a.count a.abscissas)) ≡ step_of j words
        unfolding step_of
        step_runs s =
            let i = job.value in
            let m = facts.interpolates in
            let e : interpolation_in a ≡ i =
            ap interpolation_in (sym (gave_same job.rest)) ∙ answered_back _ i m.placed.freqs_many m.placed.x_many m.weights_many m.abscissas_many
            in
            ap (λ z. settled j (exchanged j.fields z)) e ∙ sym (ap (stepped_by j) (standing_is s))
