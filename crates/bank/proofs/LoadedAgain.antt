-- A job's words load as the job: the fields read from them are the job's, but for what no job reads, and the state is the job's. Assumes
-- nothing.
use Rattle.bands.specs.Numbered.{symmetry_of, value_of}
use Prim.Native.Nat.{ℕ, zero, suc, ◌+◌, ◌-◌, ◌≤◌}
use mathlib.Core.Path.{◌≡◌, refl, ap, ◌∙◌}
use mathlib.Core.Bool.{true, false, not, ◌&&◌, cond}
use mathlib.Core.List.{List, [], ◌∷◌, ◌++◌}
use borrow.Author.Tests.{eq-eqb}
use lib.Dec.{eqb, leb}
use lib.ListN.{length, replicate}
use lib.Ieee.{binary64, of_bits}
use Rattle.numbers.specs.Loops.{tab}
use Rattle.numbers.specs.Outcome.{gave}
use Rattle.packing.specs.Packing.{at, symmetry_at, taps_at, degree_at, allowed_at, made_at, count_at, threshold_at, flatness_at, band_at, point_at, words_of, fields_of}
use Rattle.packing.specs.Alike.{Stored}
use Rattle.packing.proofs.RoundTrip.{unpacked, packed_again}
use Rattle.packing.proofs.AcceptedAlike.{finished_alike, unpacked_accepted}
use Rattle.fields.specs.declared.held.Fields.{Fields}
use Rattle.fields.specs.Interpolant.{Interpolation}
use Rattle.fields.specs.Accept.{accept_of, finished}
use Rattle.exchange.specs.Job.{Standing, running, done, failed, Held, held, agrees, job_for}
use Rattle.bank.specs.Sizes.{all_zero, same}
use Rattle.bank.specs.Slot.{state_word, failure_word, slot_words, standing_in, held_in, is_given, is_job, empty, broken, holds, load_of}
use Rattle.bank.proofs.Laws.{slot_words-length}

-- ---- words with zeros behind them read the same
at-padded : (w : List ℕ) (k i : ℕ) → at (w ++ replicate k 0) i ≡ at w i
at-padded [] zero i = refl
at-padded [] (suc k) zero = refl
at-padded [] (suc k) (suc i) = at-padded [] k i
at-padded (x ∷ w) k zero = refl
at-padded (x ∷ w) k (suc i) = at-padded w k i

pub fields_padded : (w : List ℕ) (k : ℕ) → fields_of (w ++ replicate k 0) ≡ fields_of w
unfolding fields_of
fields_padded w k =
    let e : (i : ℕ) → at (w ++ replicate k 0) i ≡ at w i = at-padded w k in
    λ t.
    record {
      request =
          record {
            taps = e taps_at t;
            symmetry = symmetry_of (e symmetry_at t);
            degree = e degree_at t;
            exchanges = e allowed_at t;
            threshold = of_bits binary64 (e threshold_at t);
            plan =
                record {
                  bands =
                      tab
                      (λ i.
                      record {
                        begin = of_bits binary64 (e (band_at i + 2) t);
                        end = of_bits binary64 (e (band_at i + 3) t);
                        desired = value_of (e (band_at i) t) (of_bits binary64 (e (band_at i + 4) t)) (of_bits binary64 (e (band_at i + 5) t));
                        weight = value_of (e (band_at i + 1) t) (of_bits binary64 (e (band_at i + 6) t)) (of_bits binary64 (e (band_at i + 7) t));
                      })
                      8 0;
                  count = e count_at t;
                };
          };
      made = e made_at t;
      flatness = of_bits binary64 (e flatness_at t);
      points = tab (λ i. of_bits binary64 (e (point_at i) t)) 65 0;
    }

standing_back : (s : Standing) → standing_in (state_word s) (failure_word s) ≡ s
standing_back running = refl
standing_back done = refl
standing_back (failed n) = refl

pub same_self : (xs : List ℕ) → same xs xs ≡ true
unfolding same
same_self [] = refl
same_self (x ∷ xs) = ap (λ b. b && same xs xs) (eq-eqb x x refl) ∙ same_self xs

module _ (f : Fields) (s : Standing) (n : ℕ) (wide : 139 ≤ n) where
  abbrev ws : List ℕ
  ws = slot_words n (held f s)

  abbrev again : Held
  again = held (fields_of (words_of f)) s

  read_back : held_in ws ≡ again
  unfolding slot_words
  read_back = λ t. held (fields_padded (words_of f) (n - 139) t) (standing_back s t)

  not_empty : all_zero ws ≡ false
  unfolding slot_words all_zero
  not_empty = go s
    where
      go : (z : Standing) → (eqb (state_word z) 0 && all_zero (failure_word s ∷ (words_of f ++ replicate (n - 139) 0))) ≡ false
      go running = refl
      go done = refl
      go (failed m) = refl

  words_again : words_of (fields_of (words_of f)) ≡ words_of f → slot_words (length ws) again ≡ ws
  unfolding slot_words
  words_again w =
      ap (λ m. slot_words m again) (slot_words-length n (held f s) wide) ∙ (λ t. state_word s ∷ failure_word s ∷ (w t ++ replicate (n - 139) 0))

  job_again : (i : Interpolation) → job_for again ≡ gave i → words_of (fields_of (words_of f)) ≡ words_of f → is_job ws ≡ true
  unfolding is_job
  job_again i e w =
      ap (λ h. is_given (job_for h) && same (slot_words (length ws) h) ws) read_back
      ∙ ap (λ o. is_given o && same (slot_words (length ws) again) ws) e
      ∙ ap (λ l. same l ws) (words_again w)
      ∙ same_self ws

  pub loads_back : (i : Interpolation) → job_for again ≡ gave i → words_of (fields_of (words_of f)) ≡ words_of f → load_of ws ≡ holds again
  unfolding load_of
  loads_back i e w =
      ap (λ b. cond b empty (cond (is_job ws) (holds (held_in ws)) broken)) not_empty
      ∙ ap (λ b. cond b (holds (held_in ws)) broken) (job_again i e w)
      ∙ ap holds read_back

-- ---- an accepted job whose state agrees
pub job_of : (f : Fields) (s : Standing) (i : Interpolation) → accept_of f ≡ gave i → agrees f s ≡ true → job_for (held f s) ≡ gave i
unfolding job_for
job_of f s i e a = rw (e, a)

agrees_again : (f g : Fields) (s : Standing) → finished f ≡ finished g → agrees f s ≡ agrees g s
agrees_again f g running e = ap not e
agrees_again f g done e = e
agrees_again f g (failed n) e = ap (λ b. not b && (leb 9 n && leb n 13)) e

pub packed_loads :
    (f : Fields) (s : Standing) (i : Interpolation) (n : ℕ) → 139 ≤ n → Stored f → accept_of f ≡ gave i → agrees f s ≡ true
    → load_of (slot_words n (held f s)) ≡ holds (held (fields_of (words_of f)) s)
packed_loads f s i n wide stored e a =
    let back = finished_alike (fields_of (words_of f)) f (unpacked f i stored e) in
    loads_back f s n wide i
    (job_of (fields_of (words_of f)) s i (unpacked_accepted f i stored e) (agrees_again (fields_of (words_of f)) f s back ∙ a))
    (packed_again f i stored e)
