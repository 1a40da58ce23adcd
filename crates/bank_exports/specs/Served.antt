-- The bank's calls as C makes them, and what it is given.
use Rattle.bands.specs.Numbered.{symmetry_of}
use Rattle.std.specs.Prelude.{ℕ, ◌≡◌, Bool, ◌&&◌, cond, List, ◌∷◌, leb, eqb, length, drop, Float}
use Rattle.exports.specs.Plans.{plan_of}
use Rattle.fields.specs.declared.request.Request.{Request}
use Rattle.fields.specs.Request.{request_of}
use Rattle.bank.specs.Sizes.{full}
use Rattle.bank.specs.Calls.{Call, read, save, Told, plainly, taps_of, freqs_of, bytes_of}
use Rattle.bank.specs.Bank.{Done, bank_call}

-- a symmetry above 1 makes a request of no taps, which is refused with 5 in its turn
abbrev pub request_from : ℕ → ℕ → ℕ → ℕ → Float → List ℕ → List Float → Request
request_from taps symmetry degree exchanges threshold kinds numbers =
    request_of (cond (leb symmetry 1) taps 0) (symmetry_of symmetry) degree exchanges threshold (plan_of kinds numbers)

-- the call where there is room for what it tells beside its outputs; else 15, and nothing is touched
abbrev pub served : Bool → Call → ℕ → List ℕ → List ℕ → Done
served room call slot bank scratch =
    cond room (bank_call full call slot bank scratch)
    (record { told = plainly 15; bank = bank; scratch = scratch; taps = taps_of call; freqs = freqs_of call; bytes = bytes_of call })

-- a read, whose report takes two numbers and whose counts take one; a save, whose counts take one
abbrev pub read_for : ℕ → ℕ → List Float → List Float → ℕ → List ℕ → List ℕ → Done
read_for report counts t f slot bank scratch = served (leb 2 report && leb 1 counts) (read t f) slot bank scratch

abbrev pub save_for : ℕ → List ℕ → ℕ → List ℕ → List ℕ → Done
save_for counts out slot bank scratch = served (leb 1 counts) (save out) slot bank scratch

-- where the call did its work: the weighted error and the flatness at the front of the report, the iterations of a read or the bytes of a
-- save at the front of the counts
abbrev pub reported : Told → List Float → List Float
reported t l = cond (eqb t.number 0) (t.error ∷ t.flatness ∷ drop 2 l) l

abbrev pub counted : ℕ → ℕ → List ℕ → List ℕ
counted number n l = cond (eqb number 0) (n ∷ drop 1 l) l

abbrev pub iterations_told : Told → List ℕ → List ℕ
iterations_told t l = counted t.number t.iterations l

abbrev pub bytes_told : Told → List ℕ → List ℕ
bytes_told t l = counted t.number t.count l

-- The contract of every call: 0 or document 01's number of the refusal, and what is left of bank, scratch and outputs.
pub record Served (o : Done) (r : ℕ) (b s : List ℕ) (t f : List Float) (bs : List ℕ) : Type 0 where
  pub is : r ≡ o.told.number
  pub bank : b ≡ o.bank
  pub scratch : s ≡ o.scratch
  pub taps : t ≡ o.taps
  pub freqs : f ≡ o.freqs
  pub bytes : bs ≡ o.bytes
