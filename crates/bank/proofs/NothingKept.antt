-- Nothing derived is kept. What a restored slot holds is a function of the fields that the image's bytes hold, and of nothing that was in
-- memory; and what later calls answer is worked out from these fields: with the interpolation (points, weights, delta, abscissas) that
-- `accept_of` gives of them now a step exchanges and a read designs, whatever calls on other slots came between. A program that kept one
-- derived number, of an earlier plan or of an earlier job, and answered by it falls to this. Assumes nothing.
use Prim.Native.Nat.{ℕ, ◌≤◌, ◌<◌}
use mathlib.Core.Path.{◌≡◌, refl, sym, ap, ◌∙◌}
use mathlib.Core.Bool.{Bool, true, false, cond}
use mathlib.Core.List.{List, [], ◌∷◌}
use native.Mathlib.Omega.{arith}
use borrow.Author.Tests.{le-leb, leb-true, eqb-true}
use lib.Dec.{eqb, leb}
use lib.ListN.{length, get_or, replicate}
use lib.Ieee.{Float}
use Rattle.numbers.specs.Outcome.{Outcome, refused, gave, bind}
use Rattle.numbers.proofs.Given.{gave_same, unless_given, bind_given}
use Rattle.numbers.proofs.Order.{and_1, and_2}
use Rattle.packing.specs.Packing.{words_of, fields_of}
use Rattle.packing.proofs.ReadStored.{read_stored}
use Rattle.packing.proofs.Sound.{sound}
use Rattle.fields.specs.declared.held.Fields.{Fields}
use Rattle.fields.specs.Interpolant.{Interpolation}
use Rattle.fields.specs.Accept.{accept_of, finished}
use Rattle.exchange.specs.Exchange.{exchanged}
use Rattle.exchange.specs.Job.{running, Held, held, standing_by}
use Rattle.exchange.specs.Step.{ready_for, settled, step_of}
use Rattle.exchange.specs.Design.{Design, design_in, design_for}
use Rattle.exchange.proofs.StepFacts.{job_by}
use Rattle.image.specs.Image.{words_in, layout, image_for}
use Rattle.image.proofs.LayoutLaws.{layout_facts}
use Rattle.image.proofs.SavedAgain.{words_same}
use Rattle.bank.specs.Sizes.{Sizes, slot_of, all_zero}
use Rattle.bank.specs.Slot.{slot_words, held_in, is_job, empty, broken, holds, load_of}
use Rattle.bank.specs.Calls.{Call, step, read, restore, plainly, Result, gives, restored, restore_for, placing, answered, reading, on_loaded, on_slot, room}
use Rattle.bank.specs.Bank.{gate_of, passed, bank_call}
use Rattle.bank.specs.Runs.{Event, Shown, bank_after, shown_of, own, slot_after}
use Rattle.bank.proofs.Laws.{inside, slot_of-length, slot_words-length}
use Rattle.bank.proofs.Isolation.{call_length, words_own, Alike, isolated}
use Rattle.bank.proofs.LoadedAgain.{loads_back}
use Rattle.bank.proofs.Numbers.{Enough}
use Rattle.bank.proofs.SavedRestored.{came, came_words}

-- ---- which job restoring gives: the image's own fields, running or finished as they say, and accepted now
pub record Restores (s : List ℕ) (j : Held) : Type 0 where
  pub fields : image_for s ≡ gave j.fields
  pub standing : j.standing ≡ standing_by j.fields
  pub interpolation : Interpolation
  pub accepted : accept_of j.fields ≡ gave interpolation

pub restores : (s : List ℕ) (j : Held) → restore_for s ≡ gave j → Restores s j
restores s j e =
    let a = bind_given (image_for s) restored e in
    let b = bind_given (accept_of a.value) (λ _. gave (held a.value (standing_by a.value))) a.rest in
    let z : held a.value (standing_by a.value) ≡ j = gave_same b.rest in
    rw (← z) (record { fields = a.given; standing = refl; interpolation = b.value; accepted = b.given })

-- ---- an image, as bytes are: each below 256, and past their end they count as zero; its fields, and what is worked out from them now
module _ (s : List ℕ) (small : (k : ℕ) → get_or s k 0 < 256) (f : Fields) (image : image_for s ≡ gave f) (i : Interpolation) (accepted : accept_of f ≡ gave i) where
  restores_by : restore_for s ≡ gave (held f (standing_by f))
  restores_by = ap (λ o. bind o restored) image ∙ ap (λ o. bind o (λ _. gave (held f (standing_by f)))) accepted

  fields_back : fields_of (words_of f) ≡ f
  unfolding image_for
  fields_back =
      let u = unless_given (layout s) 14 (gave (fields_of (words_in s))) image in
      let same : fields_of (words_in s) ≡ f = gave_same u.rest in
      let g = fields_of (words_in s) in
      let sd = sound g i (read_stored (words_in s)).room (rw same accepted) in
      let back : fields_of (words_of g) ≡ g = ap fields_of (words_same s small (layout_facts s u.test) sd) in
      rw same at back

  -- the words of the job are read as that very job
  loads : (n : ℕ) → 139 ≤ n → load_of (slot_words n (held f (standing_by f))) ≡ holds (held f (standing_by f))
  loads n wide =
      let job = job_by f i accepted in
      loads_back f (standing_by f) n wide i (rw fields_back job) (ap words_of fields_back) ∙ ap (λ g. holds (held g (standing_by f))) fields_back

  module _ (σ : Sizes) (us : List ℕ) (wide : 139 ≤ length us) (vacant : load_of us ≡ empty) where
    -- the words that restoring leaves are those of the fields
    pub restored_words : on_slot σ (restore s) us ≡ gives (restore s) 0 (slot_words (length us) (held f (standing_by f)))
    unfolding on_slot
    restored_words = ap (λ l. on_loaded σ (restore s) l us) vacant ∙ ap (placing (restore s) us) restores_by

    abbrev ws : List ℕ
    ws = (on_slot σ (restore s) us).slot

    words_are : ws ≡ slot_words (length us) (held f (standing_by f))
    words_are = ap (λ o. o.slot) restored_words

    pub restored_loads : load_of ws ≡ holds (held f (standing_by f))
    restored_loads = ap load_of words_are ∙ loads (length us) wide

    -- a step on a running one: the exchange of the image's fields with the interpolation that is worked out from them now
    step_works : finished f ≡ false → 2482 ≤ σ.scratch → step_of (held f (standing_by f)) σ.scratch ≡ settled (held f running) (exchanged f i)
    unfolding step_of ready_for
    step_works going room = rw (going, le-leb 2482 σ.scratch room, rw going at (job_by f i accepted))

    pub restored_steps : finished f ≡ false → 2482 ≤ σ.scratch
        → let next = settled (held f running) (exchanged f i) in on_slot σ step ws ≡ gives step (answered next.answer) (slot_words (length us) next.job)
    unfolding on_slot
    restored_steps going room =
        let long : length ws ≡ length us = ap length words_are ∙ slot_words-length (length us) (held f (standing_by f)) wide in
        ap (λ l. on_loaded σ step l ws) restored_loads
        ∙ ap (λ next. gives step (answered next.answer) (slot_words (length ws) next.job)) (step_works going room)
        ∙ ap (λ n. let next = settled (held f running) (exchanged f i) in gives step (answered next.answer) (slot_words n next.job)) long

    -- a read of a finished one: the design of the image's fields with that interpolation
    design_works : finished f ≡ true → (t g : ℕ) → 128 ≤ t → 65 ≤ g → design_for (held f (standing_by f)) t g ≡ design_in f t i
    unfolding design_for
    design_works end t g a b = rw (end, le-leb 128 t a, le-leb 65 g b, rw end at (job_by f i accepted))

    pub restored_reads : finished f ≡ true → (t g : List Float) → 128 ≤ length t → 65 ≤ length g → on_slot σ (read t g) ws ≡ reading ws t g (design_in f (length t) i)
    unfolding on_slot
    restored_reads end t g a b =
        ap (λ l. on_loaded σ (read t g) l ws) restored_loads ∙ ap (reading ws t g) (design_works end (length t) (length g) a b)

-- ---- on a bank
-- what a caller sees of a call on a slot
abbrev pub seen : Result → Shown
seen o = record { told = o.told; taps = o.taps; freqs = o.freqs; bytes = o.bytes }

came_shown : (σ : Sizes) (call : Call) (slot : ℕ) (bank scratch : List ℕ) → gate_of σ (length bank) (length scratch) slot (room σ call) ≡ 0
    → shown_of (bank_call σ call slot bank scratch) ≡ seen (on_slot σ call (slot_of σ bank slot))
unfolding bank_call passed
came_shown σ call slot bank scratch e = ap (λ g. seen (passed σ g call (slot_of σ bank slot))) e

seen_reading : (ws vs : List ℕ) (t g : List Float) (o : Outcome Design) → seen (reading ws t g o) ≡ seen (reading vs t g o)
seen_reading ws vs t g (refused n) = refl
seen_reading ws vs t g (gave d) = refl

-- calls on other slots leave a slot's words
between : (σ : Sizes) → 139 ≤ σ.slot → (slot : ℕ) (es : List Event) (bank : List ℕ) → own slot es ≡ [] → slot_of σ (bank_after σ bank es) slot ≡ slot_of σ bank slot
between σ wide slot es bank e = words_own σ wide slot es bank ∙ ap (slot_after σ (length bank) slot (slot_of σ bank slot)) e ∙ unmoved
  where
    unmoved : slot_after σ (length bank) slot (slot_of σ bank slot) [] ≡ slot_of σ bank slot
    unmoved = unfold slot_after in refl

-- an image is restored into an empty slot, calls on other slots follow, and then one on this slot
module _
    (s : List ℕ) (small : (k : ℕ) → get_or s k 0 < 256) (f : Fields) (image : image_for s ≡ gave f) (i : Interpolation) (accepted : accept_of f ≡ gave i)
    (σ : Sizes) (wide : 139 ≤ σ.slot) (enough : Enough σ) (slot : ℕ) (bank scratch : List ℕ) (es : List Event) (later : List ℕ)
    (gate : gate_of σ (length bank) (length scratch) slot true ≡ 0) (vacant : load_of (slot_of σ bank slot) ≡ empty) (others : own slot es ≡ [])
  where
    abbrev after : List ℕ
    after = bank_after σ (bank_call σ (restore s) slot bank scratch).bank es

    long : length (slot_of σ bank slot) ≡ σ.slot
    long = slot_of-length σ bank slot (inside σ (length bank) (length scratch) slot true gate).part

    wide_enough : 139 ≤ length (slot_of σ bank slot)
    wide_enough = omega (arith, long, wide)

    found : slot_of σ after slot ≡ (on_slot σ (restore s) (slot_of σ bank slot)).slot
    found = between σ wide slot es (bank_call σ (restore s) slot bank scratch).bank others ∙ came_words σ (restore s) slot bank scratch wide gate

    -- what is read of a finished one is the design of the image's fields, with what is worked out from them now
    pub bank_reads : finished f ≡ true → (t g : List Float) → gate_of σ (length after) (length later) slot (room σ (read t g)) ≡ 0
        → shown_of (bank_call σ (read t g) slot after later) ≡ seen (reading [] t g (design_in f (length t) i))
    bank_reads end t g through =
        let r = (inside σ (length after) (length later) slot (room σ (read t g)) through).room in
        let a = leb-true σ.taps (length t) (and_1 (leb σ.taps (length t)) (leb σ.freqs (length g)) r) in
        let b = leb-true σ.freqs (length g) (and_2 (leb σ.taps (length t)) (leb σ.freqs (length g)) r) in
        came_shown σ (read t g) slot after later through
        ∙ ap (λ ws. seen (on_slot σ (read t g) ws)) found
        ∙ ap seen (restored_reads s small f image i accepted σ (slot_of σ bank slot) wide_enough vacant end t g (omega (arith, a, enough.taps)) (omega (arith, b, enough.freqs)))
        ∙ seen_reading _ [] t g (design_in f (length t) i)

    -- what a step on a running one answers and leaves is the exchange of the image's fields, with what is worked out from them now
    pub bank_steps : finished f ≡ false → gate_of σ (length after) (length later) slot true ≡ 0
        → let next = settled (held f running) (exchanged f i) in
        ((bank_call σ step slot after later).told ≡ plainly (answered next.answer)) × (slot_of σ (bank_call σ step slot after later).bank slot ≡ slot_words σ.slot next.job)
    bank_steps going through =
        let next = settled (held f running) (exchanged f i) in
        let all = ap (on_slot σ step) found ∙ restored_steps s small f image i accepted σ (slot_of σ bank slot) wide_enough vacant going enough.search in (
          came σ step slot after later through ∙ ap (λ o. o.told) all,
          came_words σ step slot after later wide through ∙ ap (λ o. o.slot) all ∙ ap (λ n. slot_words n next.job) long,
        )

-- ---- whatever was in memory: two banks with that slot empty, two scratches, and images with the same fields
zeros : (ws : List ℕ) → all_zero ws ≡ true → ws ≡ replicate (length ws) 0
unfolding all_zero
zeros [] e = refl
zeros (x ∷ xs) e =
    let h : x ≡ 0 = eqb-true x 0 (and_1 (eqb x 0) (all_zero xs) e) in
    let t : xs ≡ replicate (length xs) 0 = zeros xs (and_2 (eqb x 0) (all_zero xs) e) in
    λ i. h i ∷ t i

empty_zeros : (ws : List ℕ) → load_of ws ≡ empty → ws ≡ replicate (length ws) 0
unfolding load_of
empty_zeros ws e = zeros ws (go (all_zero ws) (is_job ws) e)
  where
    go : (z b : Bool) → cond z empty (cond b (holds (held_in ws)) broken) ≡ empty → z ≡ true
    go true b q = refl
    go false true q = absurd (let k : ◌≡◌ {A = ℕ} 0 1 = cc in omega arith)
    go false false q = absurd (let k : ◌≡◌ {A = ℕ} 0 1 = cc in omega arith)

module _
    (σ : Sizes) (wide : 139 ≤ σ.slot) (slot : ℕ) (s t : List ℕ) (same : image_for s ≡ image_for t) (a b u v : List ℕ) (long : length a ≡ length b)
    (gate-a : gate_of σ (length a) (length u) slot true ≡ 0) (gate-b : gate_of σ (length b) (length v) slot true ≡ 0)
    (vacant-a : load_of (slot_of σ a slot) ≡ empty) (vacant-b : load_of (slot_of σ b slot) ≡ empty)
  where
    abbrev a' : List ℕ
    a' = (bank_call σ (restore s) slot a u).bank

    abbrev b' : List ℕ
    b' = (bank_call σ (restore t) slot b v).bank

    words_same_before : slot_of σ a slot ≡ slot_of σ b slot
    words_same_before =
        let n = slot_of-length σ a slot (inside σ (length a) (length u) slot true gate-a).part in
        let m = slot_of-length σ b slot (inside σ (length b) (length v) slot true gate-b).part in
        empty_zeros (slot_of σ a slot) vacant-a ∙ ap (λ k. replicate k 0) (n ∙ sym m) ∙ sym (empty_zeros (slot_of σ b slot) vacant-b)

    on_empty : (ws : List ℕ) → load_of ws ≡ empty → on_slot σ (restore s) ws ≡ on_slot σ (restore t) ws
    unfolding on_slot
    on_empty ws e =
        ap (λ l. on_loaded σ (restore s) l ws) e
        ∙ ap (λ o. placing (restore s) ws (bind o restored)) same
        ∙ go (restore_for t)
        ∙ sym (ap (λ l. on_loaded σ (restore t) l ws) e)
      where
        go : (o : Outcome Held) → placing (restore s) ws o ≡ placing (restore t) ws o
        go (refused n) = refl
        go (gave j) = refl

    on_both : on_slot σ (restore s) (slot_of σ a slot) ≡ on_slot σ (restore t) (slot_of σ b slot)
    on_both = on_empty (slot_of σ a slot) vacant-a ∙ ap (on_slot σ (restore t)) words_same_before

    -- the same answer, and from there on the same calls on this slot show the same and leave the same words
    pub same_answer : (bank_call σ (restore s) slot a u).told ≡ (bank_call σ (restore t) slot b v).told
    same_answer = came σ (restore s) slot a u gate-a ∙ ap (λ o. o.told) on_both ∙ sym (came σ (restore t) slot b v gate-b)

    pub same_later : (es fs : List Event) → own slot es ≡ own slot fs → Alike σ slot a' b' es fs
    same_later es fs o =
        isolated σ wide slot a' b' es fs
        (call_length σ wide (restore s) slot a u ∙ long ∙ sym (call_length σ wide (restore t) slot b v))
        (came_words σ (restore s) slot a u wide gate-a ∙ ap (λ r. r.slot) on_both ∙ sym (came_words σ (restore t) slot b v wide gate-b))
        o
