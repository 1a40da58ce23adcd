-- A run of calls on a bank, and the same calls on one slot alone.
use Rattle.std.specs.Prelude.{ℕ, cond, List, [], ◌∷◌, eqb, length, Float}
use Rattle.bank.specs.Sizes.{Sizes}
use Rattle.bank.specs.Calls.{Call, room, Told, Result}
use Rattle.bank.specs.Bank.{gate_of, passed, Done, bank_call}

-- one call on a bank: the slot, the scratch that is lent, and the call with its lent outputs
pub record Event : Type 0 where
  pub slot : ℕ
  pub scratch : List ℕ
  pub call : Call

-- what a caller sees of a call: the answer and the outputs
pub record Shown : Type 0 where
  pub told : Told
  pub taps : List Float
  pub freqs : List Float
  pub bytes : List ℕ

-- the bank after a run
unfoldable pub bank_after : Sizes → List ℕ → List Event → List ℕ
bank_after σ bank [] = bank
bank_after σ bank (e ∷ es) = bank_after σ (bank_call σ e.call e.slot bank e.scratch).bank es

abbrev pub shown_of : Done → Shown
shown_of r = record { told = r.told; taps = r.taps; freqs = r.freqs; bytes = r.bytes }

-- what the run shows of the calls on slot i
unfoldable pub shown_at : Sizes → ℕ → List ℕ → List Event → List Shown
shown_at σ i bank [] = []
shown_at σ i bank (e ∷ es) =
    let r = bank_call σ e.call e.slot bank e.scratch in
    let rest = shown_at σ i r.bank es in
    cond (eqb e.slot i) (shown_of r ∷ rest) rest

-- a call on one slot: of the scratch only its length is left
pub record Own : Type 0 where
  pub spare : ℕ
  pub call : Call

-- the calls of a run that are on slot i
unfoldable pub own : ℕ → List Event → List Own
own i [] = []
own i (e ∷ es) = cond (eqb e.slot i) (record { spare = length e.scratch; call = e.call } ∷ own i es) (own i es)

-- the one-slot machine: n is the bank's length
abbrev pub slot_call : Sizes → ℕ → ℕ → Own → List ℕ → Result
slot_call σ n i o ws = passed σ (gate_of σ n o.spare i (room σ o.call)) o.call ws

unfoldable pub slot_after : Sizes → ℕ → ℕ → List ℕ → List Own → List ℕ
slot_after σ n i ws [] = ws
slot_after σ n i ws (o ∷ os) = slot_after σ n i (slot_call σ n i o ws).slot os

unfoldable pub slot_shows : Sizes → ℕ → ℕ → List ℕ → List Own → List Shown
slot_shows σ n i ws [] = []
slot_shows σ n i ws (o ∷ os) =
    let r = slot_call σ n i o ws in
    record { told = r.told; taps = r.taps; freqs = r.freqs; bytes = r.bytes } ∷ slot_shows σ n i r.slot os
