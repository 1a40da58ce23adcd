-- What each call gives on its slot's words and its lent outputs, whatever they hold.
use Rattle.std.specs.Prelude as std
use Rattle.numbers.specs.declared.Refusal.{Refusal}
use Rattle.std.specs.Prelude.{ℕ, ◌≡◌, Bool, true, ◌&&◌, List, [], leb, length, replicate, Float}
use Rattle.numbers.specs.Floats.{zero64}
use Rattle.numbers.specs.Outcome.{Outcome, refused, gave, bind}
use Rattle.numbers.specs.Refusals.{refusal_number, front}
use Rattle.fields.specs.declared.request.Request.{Request}
use Rattle.fields.specs.declared.held.Fields.{Fields}
use Rattle.fields.specs.Accept.{accept_of, opening}
use Rattle.exchange.specs.Job.{Standing, running, done, failed, Held, held, standing_by, opened_of}
use Rattle.exchange.specs.Step.{step_of}
use Rattle.exchange.specs.Design.{Design, design_for}
use Rattle.exchange.specs.declared.design.Report.{Report}
use Rattle.image.specs.Image.{image_of, image_for}
use Rattle.bank.specs.Sizes.{Sizes}
use Rattle.bank.specs.Slot.{slot_words, Loaded, empty, broken, holds, load_of}

-- a call, with what it lends: the request, the outputs as they are lent, or the image
pub data Call : Type 0 where
  open' : Request → Call
  step : Call
  read : List Float → List Float → Call
  save : List ℕ → Call
  restore : List ℕ → Call
  clear : Call

-- ---- what is answered: 0 or the number of the refusal; of a read the weighted error, the flatness and the iterations; of a save how
-- many bytes were written; zero where there is nothing to tell
pub record Told : Type 0 where
  pub number : ℕ
  pub error : Float
  pub flatness : Float
  pub iterations : ℕ
  pub count : ℕ

abbrev pub plainly : ℕ → Told
plainly n = record { number = n; error = zero64; flatness = zero64; iterations = 0; count = 0 }

-- what an answer tells: its number where it is refused, else what f tells of it
abbrev pub told_by : {A : Type 0} → (A → Told) → std.Result A Refusal → Told
told_by f (std.Ok a) = f a
told_by f (std.Err q) = plainly (refusal_number q)

-- what is told where a call did its work
abbrev pub tell_done : Unit {0} → Told
tell_done u = plainly 0

abbrev pub tell_design : Report → Told
tell_design r = record { number = 0; error = r.error; flatness = r.flatness; iterations = r.iterations; count = 0 }

abbrev pub tell_bytes : ℕ → Told
tell_bytes n = record { number = 0; error = zero64; flatness = zero64; iterations = 0; count = n }

-- ---- what a call on a slot gives: its answer, the slot's words and the lent outputs after it
pub record Result : Type 0 where
  pub told : Told
  pub slot : List ℕ
  pub taps : List Float
  pub freqs : List Float
  pub bytes : List ℕ

-- the lent outputs
abbrev pub taps_of : Call → List Float
taps_of (open' r) = []
taps_of step = []
taps_of (read t f) = t
taps_of (save out) = []
taps_of (restore s) = []
taps_of clear = []

abbrev pub freqs_of : Call → List Float
freqs_of (open' r) = []
freqs_of step = []
freqs_of (read t f) = f
freqs_of (save out) = []
freqs_of (restore s) = []
freqs_of clear = []

abbrev pub bytes_of : Call → List ℕ
bytes_of (open' r) = []
bytes_of step = []
bytes_of (read t f) = []
bytes_of (save out) = out
bytes_of (restore s) = []
bytes_of clear = []

-- an answer and the slot's words, with the outputs as they were
abbrev pub gives : Call → ℕ → List ℕ → Result
gives call n ws = record { told = plainly n; slot = ws; taps = taps_of call; freqs = freqs_of call; bytes = bytes_of call }

-- ---- opening and restoring: the job that an empty slot gets
abbrev pub open_for : Request → Outcome Held
open_for r = bind (accept_of (opening r)) (λ _. gave (opened_of r))

abbrev pub restored : Fields → Outcome Held
restored f = bind (accept_of f) (λ _. gave (held f (standing_by f)))

abbrev pub restore_for : List ℕ → Outcome Held
restore_for s = bind (image_for s) restored

abbrev pub placing : Call → List ℕ → Outcome Held → Result
placing call ws (refused n) = gives call n ws
placing call ws (gave j) = gives call 0 (slot_words (length ws) j)

-- ---- on a job that the slot holds
abbrev pub answered : Outcome (Unit {0}) → ℕ
answered (refused n) = n
answered (gave u) = 0

abbrev pub step_held : ℕ → Held → List ℕ → Result
step_held scratch j ws = let next = step_of j scratch in gives step (answered next.answer) (slot_words (length ws) next.job)

abbrev pub reading : List ℕ → List Float → List Float → Outcome Design → Result
reading ws t f (refused n) = gives (read t f) n ws
reading ws t f (gave d) =
    record {
      told = record { number = 0; error = d.error; flatness = d.flatness; iterations = d.iterations; count = 0 };
      slot = ws;
      taps = front (gave d.taps) t;
      freqs = front (gave d.freqs) f;
      bytes = [];
    }

-- a failed job gives its number again
abbrev pub save_by : Standing → Fields → Outcome (List ℕ)
save_by running f = gave (image_of f)
save_by done f = gave (image_of f)
save_by (failed n) f = refused n

abbrev pub saving : List ℕ → List ℕ → Outcome (List ℕ) → Result
saving ws out (refused n) = gives (save out) n ws
saving ws out (gave s) =
    record { told = record { number = 0; error = zero64; flatness = zero64; iterations = 0; count = length s }; slot = ws; taps = []; freqs = []; bytes = front (gave s) out }

-- ---- by what the slot is: 4 where it is neither empty nor a job, 3 where the call asks for the other
abbrev pub on_loaded : Sizes → Call → Loaded → List ℕ → Result
on_loaded σ (open' r) empty ws = placing (open' r) ws (open_for r)
on_loaded σ (open' r) broken ws = gives (open' r) 4 ws
on_loaded σ (open' r) (holds j) ws = gives (open' r) 3 ws
on_loaded σ step empty ws = gives step 3 ws
on_loaded σ step broken ws = gives step 4 ws
on_loaded σ step (holds j) ws = step_held σ.scratch j ws
on_loaded σ (read t f) empty ws = gives (read t f) 3 ws
on_loaded σ (read t f) broken ws = gives (read t f) 4 ws
on_loaded σ (read t f) (holds j) ws = reading ws t f (design_for j (length t) (length f))
on_loaded σ (save out) empty ws = gives (save out) 3 ws
on_loaded σ (save out) broken ws = gives (save out) 4 ws
on_loaded σ (save out) (holds j) ws = saving ws out (save_by j.standing j.fields)
on_loaded σ (restore s) empty ws = placing (restore s) ws (restore_for s)
on_loaded σ (restore s) broken ws = gives (restore s) 4 ws
on_loaded σ (restore s) (holds j) ws = gives (restore s) 3 ws
on_loaded σ clear l ws = gives clear 0 (replicate (length ws) 0)

unfoldable pub on_slot : Sizes → Call → List ℕ → Result
on_slot σ call ws = on_loaded σ call (load_of ws) ws

-- the outputs that are lent are long enough
abbrev pub room : Sizes → Call → Bool
room σ (open' r) = true
room σ step = true
room σ (read t f) = leb σ.taps (length t) && leb σ.freqs (length f)
room σ (save out) = leb σ.bytes (length out)
room σ (restore s) = true
room σ clear = true

-- the contract of a function on a slot: what it tells, and what it leaves of the slot's words and of the outputs
pub record Settled (o : Result) (r : Told) (ws : List ℕ) (t f : List Float) (bs : List ℕ) : Type 0 where
  pub told : r ≡ o.told
  pub slot : ws ≡ o.slot
  pub taps : t ≡ o.taps
  pub freqs : f ≡ o.freqs
  pub bytes : bs ≡ o.bytes
