-- A loop that reads the bytes of a plain decimal. Assumes nothing.
use Rattle.std.proofs.Common.{ℕ, ◌+◌, ◌<◌, ◌≤◌, ◌≡◌, Bool, List, Option, Some, None, add-one, length, get_or, drop}
use lib.ListN.{drop_of_length-le}
use lib.Seq.{drop-cons}
use Rattle.text.specs.Fractions.{with_byte, fraction_from}
use Rattle.text.specs.declared.fraction.Fraction.{Fraction}
use Rattle.text.specs.declared.fraction.Partly.{Partly}

-- the digits so far and the bytes from i on make r
pub record Pointing (minus : Bool) (s : List ℕ) (p : Partly) (i : ℕ) (r : Option Fraction) : Type 0 where
  pub rest : fraction_from minus p.digits p.scale p.pointed (drop i s) ≡ r

module _ {minus : Bool} {s : List ℕ} {p : Partly} {i : ℕ} {r : Option Fraction} (g : Pointing minus s p i r) where
  pub point_wrong : i < length s → with_byte p.digits p.scale p.pointed (get_or s i 0) ≡ None → None ≡ r
  unfolding fraction_from
  point_wrong h e = rw (drop-cons s i 0 h, e) at g.rest

  pub point_next : {q : Partly} → i < length s → with_byte p.digits p.scale p.pointed (get_or s i 0) ≡ Some q →
      Pointing minus s q (i + 1) r
  unfolding fraction_from
  point_next h e = record { rest = rw add-one (rw (drop-cons s i 0 h, e) at g.rest) }

  pub point_end : length s ≤ i → Some (record { minus = minus; digits = p.digits; scale = p.scale }) ≡ r
  unfolding fraction_from
  point_end h = rw (drop_of_length-le s {i = i} h) at g.rest
