-- An image with no exchange made is an opening: for any bytes that 14 does not refuse and that say that none was made, restoring them and
-- opening the request that they hold are the same call, on every bank and slot, with the same answer, refusals too, the same words and the
-- same scratch. So it is for an image that was patched to another plan and to no exchange: of the job that it was taken from nothing is left
-- but the request. And for numbers of binary64 the words that a restored image leaves are those of the fields that it was made from.
-- Assumes nothing.
use Prim.Native.Nat.{ℕ, zero, suc, ◌-◌, ◌≤◌}
use mathlib.Core.Path.{◌≡◌, refl, sym, ap, ◌∙◌}
use mathlib.Core.Bool.{Bool, true, false, cond}
use mathlib.Core.List.{List, ◌∷◌, ◌++◌}
use native.Mathlib.Omega.{arith}
use lib.ListN.{length, replicate}
use lib.Ieee.{Float}
use Rattle.numbers.specs.Floats.{zero64}
use Rattle.numbers.specs.Outcome.{Outcome, refused, gave, bind}
use Rattle.packing.specs.Packing.{words_of, fields_of}
use Rattle.packing.specs.Alike.{Stored}
use Rattle.packing.proofs.Places.{words_alike}
use Rattle.packing.proofs.RoundTrip.{unpacked, packed_again}
use Rattle.packing.proofs.AcceptedAlike.{finished_alike, unpacked_accepted}
use Rattle.bands.specs.declared.Plan.{Plan}
use Rattle.fields.specs.declared.request.Request.{Request}
use Rattle.fields.specs.declared.held.Fields.{Fields}
use Rattle.fields.specs.Request.{request_of}
use Rattle.fields.specs.Interpolant.{Interpolation}
use Rattle.fields.specs.Accept.{accept_of, finished, opening}
use Rattle.exchange.specs.Job.{Standing, running, done, Held, held, standing_by, opened_of}
use Rattle.exchange.proofs.StepFacts.{job_by}
use Rattle.image.specs.Image.{bytes_for, image_for, few_bands, few_points, image_of}
use Rattle.image.proofs.RoundTrip.{decoded}
use Rattle.image.proofs.Unmade.{unmade}
use Rattle.bank.specs.Sizes.{Sizes, slot_of}
use Rattle.bank.specs.Slot.{state_word, failure_word, slot_words, Loaded, empty, broken, holds, load_of}
use Rattle.bank.specs.Calls.{open', save, restore, gives, open_for, restored, restore_for, placing, on_loaded, on_slot}
use Rattle.bank.specs.Bank.{gate_of, passed, ended, bank_call}
use Rattle.bank.proofs.Laws.{slot_words-length}
use Rattle.bank.proofs.Loading.{job_agrees}
use Rattle.bank.proofs.LoadedAgain.{packed_loads}
use Rattle.bank.proofs.SavedRestored.{Going, written, slot_restored}

-- ---- an image that says that none was made
module _ (s : List ℕ) (f : Fields) (image : image_for s ≡ gave f) (none : f.made ≡ 0) where
  -- the job, or the refusal, is that of opening its request
  pub restores_opening : restore_for s ≡ open_for f.request
  restores_opening = ap (λ o. bind o restored) image ∙ ap restored (unmade s f image none)

  on_loaded_fact : (σ : Sizes) (l : Loaded) (ws : List ℕ) → on_loaded σ (restore s) l ws ≡ on_loaded σ (open' f.request) l ws
  on_loaded_fact σ empty ws = ap (placing (restore s) ws) restores_opening ∙ go (open_for f.request)
    where
      go : (o : Outcome Held) → placing (restore s) ws o ≡ placing (open' f.request) ws o
      go (refused n) = refl
      go (gave j) = refl
  on_loaded_fact σ broken ws = refl
  on_loaded_fact σ (holds j) ws = refl

  pub slot_opening : (σ : Sizes) (ws : List ℕ) → on_slot σ (restore s) ws ≡ on_slot σ (open' f.request) ws
  unfolding on_slot
  slot_opening σ ws = on_loaded_fact σ (load_of ws) ws

  by_gate : (σ : Sizes) (g : ℕ) (ws : List ℕ) → passed σ g (restore s) ws ≡ passed σ g (open' f.request) ws
  unfolding passed
  by_gate σ zero ws = slot_opening σ ws
  by_gate σ (suc n) ws = refl

  pub bank_opening : (σ : Sizes) (slot : ℕ) (bank scratch : List ℕ) → bank_call σ (restore s) slot bank scratch ≡ bank_call σ (open' f.request) slot bank scratch
  unfolding bank_call
  bank_opening σ slot bank scratch =
      let g = gate_of σ (length bank) (length scratch) slot true in
      ap (λ o. ended σ g o slot bank scratch) (by_gate σ g (slot_of σ bank slot))

-- ---- the image of accepted fields, restored into an empty slot: the words of these fields
module _ (g : Fields) (i : Interpolation) (stored : Stored g) (accepted : accept_of g ≡ gave i) where
  abbrev back : Fields
  back = fields_of (words_of g)

  standing_back : standing_by back ≡ standing_by g
  standing_back = ap (λ t. cond t done running) (finished_alike back g (unpacked g i stored accepted))

  restores : restore_for (image_of g) ≡ gave (held back (standing_by g))
  restores =
      ap (λ o. bind o restored) (decoded g i stored accepted)
      ∙ ap (λ o. bind o (λ _. gave (held back (standing_by back)))) (unpacked_accepted g i stored accepted)
      ∙ ap (λ s. gave (held back s)) standing_back

  words_back : (n : ℕ) (s : Standing) → slot_words n (held back s) ≡ slot_words n (held g s)
  unfolding slot_words
  words_back n s = ap (λ w. state_word s ∷ failure_word s ∷ (w ++ replicate (n - 139) 0)) (packed_again g i stored accepted)

  pub image_restores : (σ : Sizes) (us : List ℕ) → load_of us ≡ empty → on_slot σ (restore (image_of g)) us ≡ gives (restore (image_of g)) 0 (slot_words (length us) (held g (standing_by g)))
  unfolding on_slot
  image_restores σ us e =
      ap (λ l. on_loaded σ (restore (image_of g)) l us) e
      ∙ ap (placing (restore (image_of g)) us) restores
      ∙ ap (gives (restore (image_of g)) 0) (words_back (length us) (standing_by g))

-- ---- an accepted request whose numbers are of binary64
module _ (r : Request) (i : Interpolation) (stored : Stored (opening r)) (accepted : accept_of (opening r) ≡ gave i) where
  pub open_gives : (σ : Sizes) (us : List ℕ) → load_of us ≡ empty → on_slot σ (open' r) us ≡ gives (open' r) 0 (slot_words (length us) (opened_of r))
  unfolding on_slot
  open_gives σ us e =
      ap (λ l. on_loaded σ (open' r) l us) e ∙ ap (λ o. placing (open' r) us (bind o (λ _. gave (opened_of r)))) accepted

  -- opened, saved, and restored: the words that opening left
  pub opened_restored : (σ : Sizes) (vs us out : List ℕ) → 139 ≤ length vs → load_of vs ≡ empty → load_of us ≡ empty → length us ≡ length vs
      → let ws = (on_slot σ (open' r) vs).slot in let image = written (on_slot σ (save out) ws) in on_slot σ (restore image) us ≡ gives (restore image) 0 ws
  opened_restored σ vs us out wide e d n =
      let ws = slot_words (length vs) (opened_of r) in
      let f = opening r in
      let j = held (fields_of (words_of f)) (standing_by f) in
      let loaded : load_of ws ≡ holds j = packed_loads f (standing_by f) i (length vs) wide stored accepted (job_agrees (opened_of r) i (job_by f i accepted)) in
      let long : length ws ≡ length vs = slot_words-length (length vs) (opened_of r) wide in
      rw (open_gives σ vs e) (slot_restored σ ws (omega (arith, long, wide)) j loaded (going (finished f)) out us d (n ∙ sym long))
    where
      going : (t : Bool) → Going (cond t done running)
      going true = tt
      going false = tt

-- ---- a job's fields patched to another plan and to no exchange, whatever points still stand there
abbrev pub patched : Fields → Plan → Fields
patched f p =
    let r = f.request in
    record { request = request_of r.taps r.symmetry r.degree r.exchanges r.threshold p; made = 0; flatness = zero64; points = f.points }

-- where none was made, no byte depends on the points
module _ (r : Request) (a b : List Float) where
  abbrev unmade_with : List Float → Fields
  unmade_with points = record { request = r; made = 0; flatness = zero64; points = points }

  words_unread : words_of (unmade_with a) ≡ words_of (unmade_with b)
  words_unread =
      words_alike (unmade_with a) (unmade_with b)
      (record {
        taps = refl;
        symmetry = refl;
        degree = refl;
        exchanges = refl;
        threshold = refl;
        count = refl;
        bands = λ k h. refl;
        made = refl;
        flatness = refl;
        points = refl;
      })

  unread : image_of (unmade_with a) ≡ image_of (unmade_with b)
  unfolding image_of
  unread = ap (λ w. bytes_for w (few_bands (unmade_with b)) (few_points (unmade_with b))) words_unread

-- its image, restored into an empty slot, leaves the words that opening with the new plan leaves
pub patched_opens : (f : Fields) (p : Plan) (i : Interpolation) → let r = (patched f p).request in
    Stored (opening r) → accept_of (opening r) ≡ gave i → (σ : Sizes) (us : List ℕ) → load_of us ≡ empty
    → on_slot σ (restore (image_of (patched f p))) us ≡ on_slot σ (open' r) us
patched_opens f p i stored accepted σ us e =
    let r = (patched f p).request in
    rw (unread r f.points (opening r).points) (image_restores (opening r) i stored accepted σ us e ∙ sym (open_gives r i stored accepted σ us e))
