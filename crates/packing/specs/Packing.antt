-- What a job's image holds, as 137 words in the image's order: a slot keeps these words, and the image's bytes are made from them. A
-- number is its bits, a constant repeats its number's, and what is not there is zero.
use Rattle.bands.specs.Numbered.{symmetry_of, symmetry_word, value_of}
use Rattle.std.specs.Prelude.{ℕ, ◌+◌, ◌*◌, ◌/◌, ◌%◌, cond, List, [], ◌∷◌, ◌++◌, eqb, ltb, get_or, Float}
use Rattle.std.specs.Float.{nan, binary64}
use Rattle.std.specs.Float.Ieee.{of_bits}
use Rattle.numbers.specs.Loops.{tab}
use Rattle.numbers.specs.Words.{to_word}
use Rattle.bands.specs.declared.Symmetry.{Symmetry}
use Rattle.bands.specs.declared.Symmetry.TheVariants.{Even, Odd}
use Rattle.bands.specs.declared.Value.{Value}
use Rattle.bands.specs.declared.Value.TheVariants.{Constant, Linear}
use Rattle.bands.specs.declared.Band.{Band}
use Rattle.bands.specs.declared.Plan.{Plan}
use Rattle.bands.specs.Lookup.{band_of}
use Rattle.fir_types.specs.Kinds.{functions}
use Rattle.fields.specs.declared.request.Request.{Request}
use Rattle.fields.specs.declared.held.Fields.{Fields}

-- ---- where the words stand
abbrev pub symmetry_at : ℕ
symmetry_at = 0

abbrev pub taps_at : ℕ
taps_at = 1

abbrev pub degree_at : ℕ
degree_at = 2

abbrev pub allowed_at : ℕ
allowed_at = 3

abbrev pub made_at : ℕ
made_at = 4

abbrev pub count_at : ℕ
count_at = 5

abbrev pub threshold_at : ℕ
threshold_at = 6

abbrev pub flatness_at : ℕ
flatness_at = 7

-- a band: two kinds, begin, end, two desired numbers, two weights
abbrev pub band_at : ℕ → ℕ
band_at i = 8 + 8 * i

abbrev pub point_at : ℕ → ℕ
point_at i = 72 + i

abbrev pub kind_word : Value → ℕ
kind_word (Constant a) = 0
kind_word (Linear a b) = 1

abbrev pub first_word : Value → ℕ
first_word (Constant a) = to_word a
first_word (Linear a b) = to_word a

abbrev pub second_word : Value → ℕ
second_word (Constant a) = to_word a
second_word (Linear a b) = to_word b

abbrev pub band_words : Band → List ℕ
band_words b =
    kind_word b.desired ∷ kind_word b.weight ∷ to_word b.begin ∷ to_word b.end
    ∷ first_word b.desired ∷ second_word b.desired ∷ first_word b.weight ∷ second_word b.weight ∷ []

-- word k of band i: of the first bands, as many as the plan says; zero for the others
abbrev pub bands_word : Plan → ℕ → ℕ → ℕ
bands_word p i k = cond (ltb i p.count) (get_or (band_words (band_of p i)) k 0) 0

-- how many points the image holds: none when no exchange was made, else all
abbrev pub points_for : ℕ → ℕ → Symmetry → ℕ
points_for made taps s = cond (eqb made 0) 0 (functions taps s + 1)

abbrev pub points_held : Fields → ℕ
points_held j = points_for j.made j.request.taps j.request.symmetry

abbrev pub point_word : Fields → ℕ → ℕ
point_word j i = cond (ltb i (points_held j)) (to_word (get_or j.points i nan)) 0

abbrev pub head_words : Fields → List ℕ
head_words j =
    symmetry_word j.request.symmetry ∷ j.request.taps ∷ j.request.degree ∷ j.request.exchanges
    ∷ j.made ∷ j.request.plan.count ∷ to_word j.request.threshold ∷ to_word j.flatness ∷ []

unfoldable pub words_of : Fields → List ℕ
words_of j = head_words j ++ (tab (λ k. bands_word j.request.plan (k / 8) (k % 8)) 64 0 ++ tab (point_word j) 65 0)

-- ---- from words to fields, whatever they hold; past their end they are zero
abbrev pub at : List ℕ → ℕ → ℕ
at w i = get_or w i 0

abbrev pub number : List ℕ → ℕ → Float
number w i = of_bits binary64 (at w i)

abbrev pub band_in : List ℕ → ℕ → Band
band_in w i =
    record {
      begin = number w (band_at i + 2);
      end = number w (band_at i + 3);
      desired = value_of (at w (band_at i)) (number w (band_at i + 4)) (number w (band_at i + 5));
      weight = value_of (at w (band_at i + 1)) (number w (band_at i + 6)) (number w (band_at i + 7));
    }

abbrev pub plan_in : List ℕ → Plan
plan_in w = record { bands = tab (band_in w) 8 0; count = at w count_at }

abbrev pub request_in : List ℕ → Request
request_in w =
    record {
      taps = at w taps_at;
      symmetry = symmetry_of (at w symmetry_at);
      degree = at w degree_at;
      exchanges = at w allowed_at;
      threshold = number w threshold_at;
      plan = plan_in w;
    }

unfoldable pub fields_of : List ℕ → Fields
fields_of w =
    record {
      request = request_in w;
      made = at w made_at;
      flatness = number w flatness_at;
      points = tab (λ i. number w (point_at i)) 65 0;
    }
