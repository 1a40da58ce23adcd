-- What read gives on a slot: a report is told as it is, and a job that judges itself is read as a job that was loaded. Assumes nothing.
use Rattle.std.specs.Prelude.{Result, Ok, Err}
use Rattle.numbers.specs.declared.Refusal.{Refusal}
use Rattle.numbers.specs.Refusals.{refusal_number}
use Rattle.numbers.proofs.Given.{gave_same, never_given}
use Prim.Native.Nat.{ℕ, ◌≤◌}
use mathlib.Core.Path.{◌≡◌, refl, sym, ap, ◌∙◌}
use mathlib.Core.Bool.{Bool, true, false, cond}
use mathlib.Core.List.{List, []}
use borrow.Author.Tests.{le-leb}
use lib.Ieee.{Float}
use lib.ListN.{length}
use Rattle.numbers.specs.Outcome.{Outcome, refused, gave}
use Rattle.exchange.specs.declared.design.Report.{Report}
use Rattle.exchange.specs.Job.{Held, job_for}
use Rattle.exchange.specs.Design.{Design, design_for, Designed}
use Rattle.bank.specs.Sizes.{full}
use Rattle.bank.specs.Slot.{is_given, broken, holds}
use Rattle.bank.specs.Calls.{Call, Told, told_by, tell_design, plainly, gives, reading, on_loaded, on_slot, Settled}
use Rattle.bank.specs.Content.{packed_of}
use Rattle.bank.proofs.Judging.{no_job_4}
use Rattle.bank.proofs.CallLaws.{on_content}

pub read_told : (o : Outcome Design) (r : Result Report Refusal) (ws : List ℕ) (t t' f f' : List Float) → Designed o r t t' f f' → Settled (reading ws t f o) (told_by tell_design r) ws t' f' []
read_told (refused n) (Ok x) ws t t' f f' d = absurd (never_given (sym d.is))
read_told (refused n) (Err q) ws t t' f f' d =
    let k : refusal_number q ≡ n = let e : refused (refusal_number q) ≡ refused n = d.is in cc in
    record { told = ap plainly k; slot = refl; taps = d.taps; freqs = d.freqs; bytes = refl }
read_told (gave x) (Ok y) ws t t' f f' d = record { told = ap tell_design (gave_same d.is); slot = refl; taps = d.taps; freqs = d.freqs; bytes = refl }
read_told (gave x) (Err q) ws t t' f f' d = absurd (never_given d.is)

-- ---- a job, once it has judged itself
module _ (j : Held) (ws : List ℕ) (t f : List Float) (long : 128 ≤ length t) (wide : 65 ≤ length f) where
  -- where it is no job, reading it gives 4
  read_no_job : job_for j ≡ refused 4 → gives (Call.read t f) 4 ws ≡ reading ws t f (design_for j (length t) (length f))
  unfolding design_for
  read_no_job n = rw (le-leb 128 (length t) long, le-leb 65 (length f) wide, n)

  read_held : (g : Bool) → is_given (job_for j) ≡ g → on_loaded full (Call.read t f) (cond g (holds j) broken) ws ≡ reading ws t f (design_for j (length t) (length f))
  read_held true e = refl
  read_held false e = read_no_job (no_job_4 j e)

  pub read_holds : (t' f' : List Float) (a : Told) → holds j ≡ packed_of ws → Settled (reading ws t f (design_for j (length t) (length f))) a ws t' f' []
      → Settled (on_slot full (Call.read t f) ws) a ws t' f' []
  read_holds t' f' a e h = rw (on_content full (Call.read t f) ws (holds j) e ∙ read_held (is_given (job_for j)) refl) h
