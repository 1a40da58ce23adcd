-- Numbers as a person or the oracle writes them, bands and plans.
use Rattle.std.specs.Prelude.{ℕ, zero, suc, ◌+◌, Bool, true, false, cond, ◌&&◌, List, Result, Ok, Err, pos, eqb, leb, ltb, Float, set, replicate}
use Rattle.std.specs.Option.{is_some, option_map_or}
use Rattle.std.specs.Result.{is_ok}
use Rattle.std.specs.Float.{nan, binary64}
use Rattle.std.specs.Float.Ieee.{of_bits, of_int, neg}
use Rattle.numbers.specs.Operations.{◌⊘◌}
use Rattle.numbers.specs.Floats.{zero64, one64}
use Rattle.text.specs.Words.{next_of}
use Rattle.text.specs.Numerals.{hex_of}
use Rattle.text.specs.Fractions.{fraction_of}
use Rattle.text.specs.declared.Word.{Word}
use Rattle.bands.specs.declared.Symmetry.{Symmetry}
use Rattle.bands.specs.declared.Symmetry.TheVariants as symmetry
use Rattle.bands.specs.declared.Value.{Value}
use Rattle.bands.specs.declared.Value.TheVariants as value
use Rattle.bands.specs.declared.Band.{Band}
use Rattle.bands.specs.declared.Plan.{Plan}
use Rattle.cases.specs.declared.plans.Banded.{Banded}
use Rattle.cases.specs.declared.plans.Planned.{Planned}
use Rattle.cases.specs.Cases.{past_of, whole_at, count_at, number_in}

-- whole over power of ten: both are exact, so it is the decimal, rounded once
abbrev pub quotient : ℕ → ℕ → Float
quotient n scale = of_int binary64 (pos n) ⊘ of_int binary64 (pos scale)

unfoldable pub plain_in : List ℕ → ℕ → ℕ → Float
plain_in s from to = option_map_or (λ f. cond f.minus (neg (quotient f.digits f.scale)) (quotient f.digits f.scale)) (fraction_of s from to) nan

-- 16 digits are bits, whatever else they might be
unfoldable pub written_in : List ℕ → ℕ → ℕ → Float
written_in s from to = option_map_or (λ w. number_in s from to) (hex_of s from to) (plain_in s from to)

unfoldable pub written_at : List ℕ → ℕ → Float
written_at s at = option_map_or (λ (w : Word). written_in s w.from w.to) (next_of s at) nan

unfoldable pub two_past : List ℕ → ℕ → ℕ
two_past s at = past_of s (past_of s at)

-- a constant takes the first of its two numbers
unfoldable pub value_from : List ℕ → ℕ → ℕ → Value
value_from s at kind =
    cond (eqb kind 0) (value.Constant (written_at s at)) (value.Linear (written_at s at) (written_at s (past_of s at)))

-- Ok where all could be read
abbrev pub read_if : {A : Type 0} → Bool → A → Result A A
read_if good x = cond good (Ok x) (Err x)

-- what was read, all of it or not
abbrev pub read_in : {A : Type 0} → Result A A → A
read_in (Ok x) = x
read_in (Err x) = x

-- keyword, two kinds, begin, end, two desired numbers, two weights
unfoldable pub band_at : List ℕ → ℕ → Result Banded Banded
band_at s at =
    let d = count_at s (past_of s at) in
    let w = count_at s d.at in
    let edge = past_of s w.at in
    let p = past_of s edge in
    let q = two_past s p in
    read_if (is_some (whole_at s d.at) && leb d.count 1 && leb w.count 1) (record {
      band = record {
        begin = written_at s w.at;
        end = written_at s edge;
        desired = value_from s p d.count;
        weight = value_from s q w.count;
      };
      at = two_past s q;
    })

abbrev pub empty_plan : Plan
empty_plan = record {
  bands = replicate 8 (record {
    begin = zero64;
    end = of_bits binary64 0x3fe0000000000000;
    desired = value.Constant one64;
    weight = value.Constant one64;
  });
  count = 0;
}

abbrev pub planned : List Band → ℕ → ℕ → Bool → Result Planned Planned
planned bands count at good = read_if good (record { plan = record { bands = bands; count = count }; at = at })

-- the last n of `count` bands, from `from` on, to i, i + 1, ..
unfoldable pub plan_from : List ℕ → ℕ → ℕ → ℕ → ℕ → Bool → List Band → Result Planned Planned
plan_from s count zero i from good bands = planned bands count from good
plan_from s count (suc n) i from good bands =
    let b = band_at s from in
    plan_from s count n (i + 1) (read_in b).at (good && is_ok b) (set bands i (read_in b).band)

unfoldable pub plan_at : List ℕ → ℕ → ℕ → Result Planned Planned
plan_at s at count =
    cond (ltb 8 count) (planned empty_plan.bands 0 at false) (plan_from s count count 0 at true empty_plan.bands)
