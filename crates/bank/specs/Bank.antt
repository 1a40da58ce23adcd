-- What a call on a bank gives, whatever the bank, the scratch and the lent outputs hold. Order: 1, 2, then what the slot says.
use Rattle.std.specs.Prelude as std
use Rattle.numbers.specs.declared.Refusal.{Refusal}
use Rattle.numbers.specs.Refusals.{refusal_number}
use Rattle.std.specs.Prelude.{ℕ, zero, suc, ⊤, ◌+◌, ◌*◌, ◌≤◌, ◌≡◌, Bool, true, cond, List, ltb, leb, length, Float}
use Rattle.bank.specs.Sizes.{Sizes, wiped, slot_of, put_slot}
use Rattle.bank.specs.Calls.{Call, Told, Result, gives, on_slot, room}

-- refusals 1 and 2, else 0, from lengths alone
unfoldable pub gate_of : Sizes → ℕ → ℕ → ℕ → Bool → ℕ
gate_of σ words scratch slot room =
    cond (ltb words (σ.slots * σ.slot)) 1 (cond (ltb scratch σ.scratch) 1 (cond room (cond (leb σ.slots slot) 2 0) 1))

-- what a call gives on its slot's words, where its gate answers n
unfoldable pub passed : Sizes → ℕ → Call → List ℕ → Result
passed σ zero call ws = on_slot σ call ws
passed σ (suc n) call ws = gives call (suc n) ws

-- the bank with a slot's words after a call whose gate answers n: where it is refused nothing is put
unfoldable pub placed : Sizes → ℕ → List ℕ → ℕ → List ℕ → List ℕ
placed σ zero bank slot ws = put_slot σ bank slot ws
placed σ (suc n) bank slot ws = bank

-- the scratch after a call whose gate answers n: refusal 1 touches nothing, else its first words are zero
unfoldable pub cleaned : Sizes → ℕ → List ℕ → List ℕ
cleaned σ zero l = wiped σ.scratch l
cleaned σ (suc zero) l = l
cleaned σ (suc (suc n)) l = wiped σ.scratch l

pub record Done : Type 0 where
  pub told : Told
  pub bank : List ℕ
  pub scratch : List ℕ
  pub taps : List Float
  pub freqs : List Float
  pub bytes : List ℕ

abbrev pub ended : Sizes → ℕ → Result → ℕ → List ℕ → List ℕ → Done
ended σ g o slot bank scratch =
    record {
      told = o.told;
      bank = placed σ g bank slot o.slot;
      scratch = cleaned σ g scratch;
      taps = o.taps;
      freqs = o.freqs;
      bytes = o.bytes;
    }

unfoldable pub bank_call : Sizes → Call → ℕ → List ℕ → List ℕ → Done
bank_call σ call slot bank scratch =
    let g = gate_of σ (length bank) (length scratch) slot (room σ call) in
    ended σ g (passed σ g call (slot_of σ bank slot)) slot bank scratch

-- the gate's answer as its number; where it lets a call through, the place of the slot's first word, which the bank has
abbrev pub number_of : {A : Type 0} → std.Result A Refusal → ℕ
number_of (std.Ok a) = 0
number_of (std.Err q) = refusal_number q

pub record Passed (words scratch slot : ℕ) (room : Bool) (a : ℕ) : Type 0 where
  pub at : a ≡ slot * 256
  pub part : a + 256 ≤ words
  pub spare : 8192 ≤ scratch
  pub fits : room ≡ true

abbrev pub At : ℕ → ℕ → ℕ → Bool → std.Result ℕ Refusal → Type 0
At words scratch slot room (std.Ok a) = Passed words scratch slot room a
At words scratch slot room (std.Err q) = ⊤

-- The contract of every call: what it tells, and what it leaves of bank, scratch and outputs.
pub record Ends (o : Done) (r : Told) (b s : List ℕ) (t f : List Float) (bs : List ℕ) : Type 0 where
  pub told : r ≡ o.told
  pub bank : b ≡ o.bank
  pub scratch : s ≡ o.scratch
  pub taps : t ≡ o.taps
  pub freqs : f ≡ o.freqs
  pub bytes : bs ≡ o.bytes
