-- How a call on a bank ends: refused at its gate, or with its slot's words put back. Assumes nothing.
use Prim.Native.Nat.{ℕ, zero, suc, ◌+◌, ◌*◌, ◌-◌, ◌≤◌}
use mathlib.Core.Path.{◌≡◌, refl, sym, ap, ◌∙◌}
use mathlib.Core.Bool.{Bool, true, false, not, cond, true≢false}
use borrow.Author.Tests.{le-ltb}
use mathlib.Core.List.{List, ◌++◌}
use native.Mathlib.Omega.{arith}
use lib.Dec.{eqb, ltb, leb}
use lib.Ieee.{Float}
use lib.ListN.{length, take, drop, replicate, length-replicate}
use lib.Seq.{drop_at, length-take-le}
use borrow.Rule.Slice.PartMut.{put_mid}
use Rattle.numbers.specs.declared.Refusal.{Refusal}
use Rattle.numbers.specs.Refusals.{refusal_number}
use Rattle.bank.specs.Sizes.{full, wiped, slot_of, put_slot}
use Rattle.bank.specs.Calls.{Call, Told, plainly, taps_of, freqs_of, bytes_of, room, on_slot, Settled}
use Rattle.bank.specs.Bank.{gate_of, passed, placed, cleaned, ended, bank_call, Ends}
use Rattle.bank.proofs.Refusals.{put_back}
use Rattle.bank.proofs.Unique.{not_zero}

-- the front of the scratch was lent, and came back zero
pub wiped_front : (w z : List ℕ) → 8192 ≤ length w → z ≡ replicate (length (take 8192 w)) 0 → z ++ drop 8192 w ≡ wiped 8192 w
unfolding wiped
wiped_front w z h e = ap (λ (l : List ℕ). l ++ drop 8192 w) (e ∙ ap (λ (n : ℕ). replicate n 0) (length-take-le 8192 w h))

pub gate_wiped : (words slot : ℕ) (room : Bool) (w z : List ℕ) → 4096 ≤ words → 8192 ≤ length w → not room ≡ false → z ≡ wiped 8192 w
    → z ≡ cleaned full (gate_of full words (length w) slot room) w
unfolding gate_of cleaned
gate_wiped words slot false w z a b r e = absurd (true≢false r)
gate_wiped words slot true w z a b r e = rw (le-ltb words 4096 a, le-ltb (length w) 8192 b) (go (leb 16 slot))
  where
    go : (t : Bool) → z ≡ cleaned full (cond t 2 0) w
    go true = e
    go false = e

-- ---- refused at the gate
ended_refused : (g : ℕ) (call : Call) (slot : ℕ) (bank scratch : List ℕ) → (g ≡ 0 → ⊥)
    → Ends (ended full g (passed full g call (slot_of full bank slot)) slot bank scratch) (plainly g) bank (cleaned full g scratch) (taps_of call) (freqs_of call) (bytes_of call)
unfolding passed placed
ended_refused zero call slot bank scratch h = absurd (h refl)
ended_refused (suc n) call slot bank scratch h = record { told = refl; bank = refl; scratch = refl; taps = refl; freqs = refl; bytes = refl }

pub ends_refused : (call : Call) (slot : ℕ) (bank scratch s : List ℕ) (q : Refusal)
    → refusal_number q ≡ gate_of full (length bank) (length scratch) slot (room full call)
    → s ≡ cleaned full (gate_of full (length bank) (length scratch) slot (room full call)) scratch
    → Ends (bank_call full call slot bank scratch) (plainly (refusal_number q)) bank s (taps_of call) (freqs_of call) (bytes_of call)
unfolding bank_call
ends_refused call slot bank scratch s q e f =
    rw (f, ← e) (ended_refused (refusal_number q) call slot bank scratch (λ z. let k = not_zero q in omega (arith, k, z)))

-- ---- a call that comes to its slot
wide : (a : ℕ) → a + 256 - a ≡ 256
wide a = omega arith

ended_done : (call : Call) (slot : ℕ) (bank scratch ws : List ℕ) (r : Told) (t f : List Float) (bs : List ℕ)
    → Settled (on_slot full call (slot_of full bank slot)) r ws t f bs
    → Ends (ended full 0 (passed full 0 call (slot_of full bank slot)) slot bank scratch) r (put_slot full bank slot ws) (cleaned full 0 scratch) t f bs
unfolding passed placed
ended_done call slot bank scratch ws r t f bs h =
    record { told = h.told; bank = ap (put_slot full bank slot) h.slot; scratch = refl; taps = h.taps; freqs = h.freqs; bytes = h.bytes }

module _ (call : Call) (slot : ℕ) (bank scratch s ws : List ℕ) (a : ℕ) (r : Told) (t f : List Float) (bs : List ℕ)
    (open' : 0 ≡ gate_of full (length bank) (length scratch) slot (room full call))
    (clean : s ≡ cleaned full (gate_of full (length bank) (length scratch) slot (room full call)) scratch) (place : a ≡ slot * 256) where
  ends_put : Settled (on_slot full call (slot_of full bank slot)) r ws t f bs → Ends (bank_call full call slot bank scratch) r (put_slot full bank slot ws) s t f bs
  unfolding bank_call
  ends_put h = rw (clean, ← open') (ended_done call slot bank scratch ws r t f bs h)

  -- the part that was lent is the slot's words, and what came back is put in its place
  pub ends_done : Settled (on_slot full call (take (a + 256 - a) (drop a bank))) r ws t f bs → Ends (bank_call full call slot bank scratch) r (put_mid a (a + 256 - a) bank ws) s t f bs
  unfolding slot_of put_slot
  ends_done h =
      let h' : Settled (on_slot full call (slot_of full bank slot)) r ws t f bs = rw (wide a, place) at h in
      rw (wide a, place) (ends_put h')

-- a call that only looks at its slot
pub ends_looked : (call : Call) (slot : ℕ) (bank scratch s : List ℕ) (a : ℕ) (r : Told) (t f : List Float) (bs : List ℕ)
    → 0 ≡ gate_of full (length bank) (length scratch) slot (room full call)
    → s ≡ cleaned full (gate_of full (length bank) (length scratch) slot (room full call)) scratch → a ≡ slot * 256
    → Settled (on_slot full call (take (a + 256 - a) (drop a bank))) r (take (a + 256 - a) (drop a bank)) t f bs → Ends (bank_call full call slot bank scratch) r bank s t f bs
unfolding slot_of put_slot
ends_looked call slot bank scratch s a r t f bs e q p h =
    let h' : Settled (on_slot full call (slot_of full bank slot)) r (slot_of full bank slot) t f bs = rw (wide a, p) at h in
    let k = ends_put call slot bank scratch s (slot_of full bank slot) a r t f bs e q p h' in
    rw (put_back full bank slot) at k

-- ---- a callee was lent the first n words of a scratch that was wiped, and they are wiped again
wiped_over : (n : ℕ) (scratch s ys : List ℕ) → s ≡ wiped n scratch → length ys ≡ n → wiped n (put_mid 0 n s ys) ≡ wiped n scratch
unfolding wiped
wiped_over n scratch s ys e l =
    ap (λ (t : List ℕ). replicate n 0 ++ t) (drop_at ys (drop n s) n l)
    ∙ ap (λ (t : List ℕ). replicate n 0 ++ drop n t) e
    ∙ ap (λ (t : List ℕ). replicate n 0 ++ t) (drop_at (replicate n 0) (drop n scratch) n (length-replicate n 0))

pub wiped_again : (scratch s ys : List ℕ) (g : ℕ) → 0 ≡ g → s ≡ cleaned full g scratch → length ys ≡ 8192 → wiped 8192 (put_mid 0 8192 s ys) ≡ cleaned full g scratch
unfolding cleaned
wiped_again scratch s ys g e q l =
    let k : cleaned full g scratch ≡ wiped 8192 scratch = ap (λ (n : ℕ). cleaned full n scratch) (sym e) in
    wiped_over 8192 scratch s ys (q ∙ k) l ∙ sym k
