-- What a gate that lets a call through says of the sizes, and that every call leaves as many words in its slot as it found, over any sizes
-- whose slots hold a job. Assumes nothing.
use Prim.Native.Nat.{ℕ, ◌+◌, ◌*◌, ◌-◌, ◌/◌, ◌%◌, ◌≤◌, ◌<◌}
use mathlib.Core.Path.{◌≡◌, refl, sym}
use mathlib.Core.Bool.{Bool, true, false, cond}
use mathlib.Core.List.{List}
use native.Mathlib.Omega.{arith}
use borrow.Author.Tests.{ltb-false, leb-false}
use lib.Dec.{ltb, leb}
use lib.Ieee.{Float}
use lib.ListN.{length, drop, replicate, length-append, length-drop, length-replicate}
use lib.Seq.{length-take-le}
use Rattle.numbers.specs.Loops.{tab}
use Rattle.numbers.specs.Outcome.{Outcome, refused, gave}
use Rattle.numbers.proofs.LoopLaws.{length-tab}
use Rattle.packing.specs.Packing.{bands_word, point_word, words_of}
use Rattle.fields.specs.declared.held.Fields.{Fields}
use Rattle.exchange.specs.Job.{Held}
use Rattle.exchange.specs.Design.{Design, design_for}
use Rattle.bank.specs.Sizes.{Sizes, slot_of}
use Rattle.bank.specs.Slot.{slot_words, Loaded, empty, broken, holds, load_of}
use Rattle.bank.specs.Calls.{Call, open', step, read, save, restore, clear, Result, open_for, restore_for, placing, reading, save_by, saving, on_loaded, on_slot}
use Rattle.bank.specs.Bank.{gate_of}
use Rattle.bank.proofs.Parts.{ends_before}

-- ---- what the gate's 0 says
pub record Inside (σ : Sizes) (words scratch i : ℕ) (fits : Bool) : Type 0 where
  pub bank : σ.slots * σ.slot ≤ words
  pub spare : σ.scratch ≤ scratch
  pub slot : i < σ.slots
  pub part : i * σ.slot + σ.slot ≤ words
  pub last : i * σ.slot + σ.slot ≤ σ.slots * σ.slot
  pub room : fits ≡ true

gate_cases : (a b r d : Bool) → cond {A = ℕ} a 1 (cond b 1 (cond r (cond d 2 0) 1)) ≡ 0 → (a ≡ false) × (b ≡ false) × (d ≡ false) × (r ≡ true)
gate_cases true b r d e = let z : ◌≡◌ {A = ℕ} 0 1 = sym e in absurd (omega arith)
gate_cases false true r d e = let z : ◌≡◌ {A = ℕ} 0 1 = sym e in absurd (omega arith)
gate_cases false false false d e = let z : ◌≡◌ {A = ℕ} 0 1 = sym e in absurd (omega arith)
gate_cases false false true true e = let z : ◌≡◌ {A = ℕ} 0 2 = sym e in absurd (omega arith)
gate_cases false false true false e = (refl, refl, refl, refl)

pub inside : (σ : Sizes) (words scratch slot : ℕ) (fits : Bool) → gate_of σ words scratch slot fits ≡ 0 → Inside σ words scratch slot fits
unfolding gate_of
inside σ words scratch slot fits e =
    let k = gate_cases (ltb words (σ.slots * σ.slot)) (ltb scratch σ.scratch) fits (leb σ.slots slot) e in
    let b = ltb-false words (σ.slots * σ.slot) k.0 in
    let i = leb-false σ.slots slot k.2 in
    let l = ends_before slot σ.slots σ.slot i in
    record { bank = b; spare = ltb-false _ _ k.1; slot = i; part = omega arith; last = l; room = k.3 }

-- ---- lengths
pub slot_of-length : (σ : Sizes) (bank : List ℕ) (i : ℕ) → i * σ.slot + σ.slot ≤ length bank → length (slot_of σ bank i) ≡ σ.slot
unfolding slot_of
slot_of-length σ bank i h = length-take-le σ.slot (drop (i * σ.slot) bank) (simp length-drop (omega arith))

pub words_length : (f : Fields) → length (words_of f) ≡ 137
unfolding words_of
words_length f =
    let b : ℕ → ℕ = λ k. bands_word f.request.plan (k / 8) (k % 8) in
    let a = length-append (tab b 64 0) (tab (point_word f) 65 0) in
    let m = length-tab b 64 0 in
    let n = length-tab (point_word f) 65 0 in
    omega arith

-- a job's words are as many as are asked for, where it has room
pub slot_words-length : (n : ℕ) (j : Held) → 139 ≤ n → length (slot_words n j) ≡ n
unfolding slot_words
slot_words-length n j h =
    let a = length-append (words_of j.fields) (replicate (n - 139) 0) in
    let w = words_length j.fields in
    let k = length-replicate {A = ℕ} (n - 139) 0 in
    omega arith

-- ---- every call leaves as many words as it found
record Whole (n : ℕ) (o : Result) : Type 0 where
  pub words : length o.slot ≡ n

placing-whole : (call : Call) (ws : List ℕ) (o : Outcome Held) → 139 ≤ length ws → Whole (length ws) (placing call ws o)
placing-whole call ws (refused n) h = record { words = refl }
placing-whole call ws (gave j) h = record { words = slot_words-length (length ws) j h }

reading-whole : (ws : List ℕ) (t f : List Float) (o : Outcome Design) → Whole (length ws) (reading ws t f o)
reading-whole ws t f (refused n) = record { words = refl }
reading-whole ws t f (gave d) = record { words = refl }

saving-whole : (ws out : List ℕ) (o : Outcome (List ℕ)) → Whole (length ws) (saving ws out o)
saving-whole ws out (refused n) = record { words = refl }
saving-whole ws out (gave s) = record { words = refl }

loaded_whole : (σ : Sizes) (call : Call) (l : Loaded) (ws : List ℕ) → 139 ≤ length ws → Whole (length ws) (on_loaded σ call l ws)
loaded_whole σ (open' r) empty ws h = placing-whole (open' r) ws (open_for r) h
loaded_whole σ (open' r) broken ws h = record { words = refl }
loaded_whole σ (open' r) (holds j) ws h = record { words = refl }
loaded_whole σ step empty ws h = record { words = refl }
loaded_whole σ step broken ws h = record { words = refl }
loaded_whole σ step (holds j) ws h = record { words = slot_words-length (length ws) _ h }
loaded_whole σ (read t f) empty ws h = record { words = refl }
loaded_whole σ (read t f) broken ws h = record { words = refl }
loaded_whole σ (read t f) (holds j) ws h = reading-whole ws t f (design_for j (length t) (length f))
loaded_whole σ (save out) empty ws h = record { words = refl }
loaded_whole σ (save out) broken ws h = record { words = refl }
loaded_whole σ (save out) (holds j) ws h = saving-whole ws out (save_by j.standing j.fields)
loaded_whole σ (restore s) empty ws h = placing-whole (restore s) ws (restore_for s) h
loaded_whole σ (restore s) broken ws h = record { words = refl }
loaded_whole σ (restore s) (holds j) ws h = record { words = refl }
loaded_whole σ clear l ws h = record { words = length-replicate {A = ℕ} (length ws) 0 }

pub slot_whole : (σ : Sizes) (call : Call) (ws : List ℕ) → 139 ≤ length ws → length (on_slot σ call ws).slot ≡ length ws
unfolding on_slot
slot_whole σ call ws h = (loaded_whole σ call (load_of ws) ws h).words
