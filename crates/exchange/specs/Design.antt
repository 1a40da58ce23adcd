-- The finished design: the response at the angles j times (PI / (functions - 1)), its coefficients, the taps; the extremal frequencies in
-- cycles per sample; the weighted error |delta|, the flatness and the number of exchanges made. 9 where a needed number is not finite.
use Rattle.std.specs.Prelude.{Result}
use Rattle.std.specs.Prelude.{ℕ, ◌≤◌, ◌≡◌, ◌&&◌, List, leb, length, Float}
use Rattle.numbers.specs.Floats.{magnitude_of}
use Rattle.numbers.specs.Operations.{◌⊘◌}
use Rattle.numbers.specs.Outcome.{Outcome, refused, gave, bind, unless, gather, needed_of}
use Rattle.numbers.specs.Refusals.{outcome_of, front}
use Rattle.numbers.specs.declared.Refusal.{Refusal}
use Rattle.angles.specs.Turns.{cosine_of}
use Rattle.barycentric.specs.Response.{responses_for}
use Rattle.chebyshev.specs.Angles.{sample_angle}
use Rattle.chebyshev.specs.Coefficients.{coefficients_for}
use Rattle.fir_types.specs.Kinds.{tau}
use Rattle.fir_types.specs.Taps.{taps_for}
use Rattle.fields.specs.declared.request.Request.{Request}
use Rattle.fields.specs.declared.held.Fields.{Fields}
use Rattle.fields.specs.declared.interpolant.Interpolant.{Interpolant}
use Rattle.fields.specs.Request.{functions_of}
use Rattle.fields.specs.Interpolant.{Interpolation, each}
use Rattle.exchange.specs.declared.design.Report.{Report}
use Rattle.exchange.specs.Job.{Standing, running, done, failed, Held, job_for}

-- where the last responses are taken
abbrev pub sample_places : ℕ → Outcome (List Float)
sample_places functions = gather (λ k. cosine_of (sample_angle functions k)) functions 0

-- of the responses h there, for an output of that room
abbrev pub taps_from : Request → ℕ → List Float → Outcome (List Float)
taps_from r room h = bind (coefficients_for h (length h)) (λ a. taps_for a r.taps r.symmetry room)

abbrev pub taps_at : Request → List Float → List Float → List Float → ℕ → List Float → Outcome (List Float)
taps_at r x w y room s = bind (responses_for s x w y (length s)) (taps_from r room)

-- of the points x with their weights and abscissas
unfoldable pub taps_in : Request → List Float → List Float → List Float → ℕ → Outcome (List Float)
taps_in r x w y room = bind (sample_places (functions_of r)) (taps_at r x w y room)

-- radians over TAU
abbrev pub in_cycles : List Float → Outcome (List Float)
in_cycles f = each (λ a. needed_of (a ⊘ tau)) f

pub record Design : Type 0 where
  pub taps : List Float
  pub freqs : List Float
  pub error : Float
  pub flatness : Float
  pub iterations : ℕ

abbrev pub design_of : Fields → Float → List Float → List Float → Design
design_of j delta f t = record { taps = t; freqs = f; error = magnitude_of delta; flatness = j.flatness; iterations = j.made }

unfoldable pub design_in : Fields → ℕ → Interpolation → Outcome Design
design_in j room i =
    bind (in_cycles i.places.freqs) (λ f.
    bind (taps_in j.request i.places.x i.weights i.abscissas room) (λ t. gave (design_of j i.delta f t)))

abbrev pub taps_needed : ℕ
taps_needed = 128

abbrev pub freqs_needed : ℕ
freqs_needed = 65

-- 3 for a running job; a failed one gives its number again
abbrev pub readable_by : Standing → Interpolation → Outcome Interpolation
readable_by running i = refused 3
readable_by done i = gave i
readable_by (failed n) i = refused n

-- 1 for an output that is too short, 4 for no job, then 3
unfoldable pub design_for : Held → ℕ → ℕ → Outcome Design
design_for j taps freqs =
    unless (leb taps_needed taps && leb freqs_needed freqs) 1
    (bind (bind (job_for j) (readable_by j.standing)) (design_in j.fields taps))

-- ---- the contract: the numbers, or why there are none; taps and frequencies at the front of the outputs, which are as they were where
-- the call is refused
abbrev pub report_of : Design → Report
report_of d = record { error = d.error; flatness = d.flatness; iterations = d.iterations }

pub record Designed (o : Outcome Design) (r : Result Report Refusal) (t t' f f' : List Float) : Type 0 where
  pub is : outcome_of r ≡ bind o (λ d. gave (report_of d))
  pub taps : t' ≡ front (bind o (λ d. gave d.taps)) t
  pub freqs : f' ≡ front (bind o (λ d. gave d.freqs)) f

-- ---- what the private functions ask for
pub record Samples (m : ℕ) (s h a : List Float) : Type 0 where
  pub least : 2 ≤ m
  pub most : m ≤ 64
  pub samples : length s ≡ m
  pub responses : length h ≡ m
  pub coefficients : length a ≡ m

pub record Readable (j : Fields) (i : Interpolant) (out : List Float) : Type 0 where
  pub least : 2 ≤ functions_of j.request
  pub most : functions_of j.request ≤ 64
  pub count : i.count ≤ 65
  pub room : 65 ≤ length out
