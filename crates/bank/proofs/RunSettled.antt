-- After any run of calls on a bank whose slots are empty or jobs, every slot is empty or a job, where what its calls open or step to holds
-- numbers of binary64. Assumes nothing.
use Prim.Native.Nat.{ℕ, ◌≤◌}
use mathlib.Core.List.{List, [], ◌∷◌}
use Rattle.bank.specs.Sizes.{Sizes, slot_of}
use Rattle.bank.specs.Slot.{load_of}
use Rattle.bank.specs.Bank.{bank_call}
use Rattle.bank.specs.Runs.{Event, bank_after}
use Rattle.bank.proofs.Settled.{EmptyOrJob, Storable, bank_settled}

-- each call of the run, on the bank that the calls before it left
unfoldable pub AllStorable : Sizes → List ℕ → List Event → Type 0
AllStorable σ bank [] = Unit {0}
AllStorable σ bank (e ∷ es) =
    Storable σ e.call (load_of (slot_of σ bank e.slot)) × AllStorable σ (bank_call σ e.call e.slot bank e.scratch).bank es

pub run_settled : (σ : Sizes) → 139 ≤ σ.slot → (es : List Event) (bank : List ℕ) → AllStorable σ bank es → ((i : ℕ) → EmptyOrJob (slot_of σ bank i)) → (i : ℕ) → EmptyOrJob (slot_of σ (bank_after σ bank es) i)
unfolding bank_after AllStorable
run_settled σ wide [] bank s h i = h i
run_settled σ wide (e ∷ es) bank s h i =
    run_settled σ wide es (bank_call σ e.call e.slot bank e.scratch).bank s.1
    (λ k. bank_settled σ wide e.call e.slot bank e.scratch s.0 h k) i
