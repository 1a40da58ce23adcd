-- The extrema inside a subinterval (find_extrema_in_subinterval of the Rust): the errors at the Chebyshev nodes, the coefficients of the
-- proxy through them, its derivative, the colleague matrix, its roots, and a candidate at each.
use Rattle.std.specs.Prelude.{◌+◌, ◌-◌, List, [], ◌∷◌, length, get_or, Float}
use Rattle.std.specs.Float.{nan}
use Rattle.numbers.specs.Floats.{one64}
use Rattle.numbers.specs.Loops.{tab}
use Rattle.numbers.specs.Operations.{◌⊕◌, ◌⊖◌, ◌⊗◌}
use Rattle.numbers.specs.Outcome.{Outcome, bind}
use Rattle.angles.specs.Constants.{half}
use Rattle.chebyshev.specs.Angles.{whole}
use Rattle.chebyshev.specs.Coefficients.{coefficients_for}
use Rattle.colleague.specs.declared.Colleague.{Colleague}
use Rattle.colleague.specs.Answer.{colleague_for}
use Rattle.fir_types.specs.declared.edges.Interval.{Interval}
use Rattle.pruning.specs.declared.candidates.Candidate.{Candidate}
use Rattle.roots.specs.Answer.{roots_for}
use Rattle.extrema.specs.Errors.{Curve, errors_for}
use Rattle.extrema.specs.Candidates.{candidates_for}

-- both ends of a subinterval
abbrev pub ends_of : Curve → Interval → List Candidate → Outcome (List Candidate)
ends_of c v l = candidates_for c (v.begin ∷ v.end ∷ []) l

-- from -1 to 1 onto the subinterval: (x0 + 1) * scale + begin
abbrev pub onto : Interval → Float → Float
onto v x0 = (x0 ⊕ one64) ⊗ (half ⊗ (v.end ⊖ v.begin)) ⊕ v.begin

abbrev pub scaled : Interval → List Float → List Float
scaled v l = tab (λ i. onto v (get_or l i nan)) (length l) 0

-- the derivative's coefficients k * a_k, from k = 1 on
abbrev pub derivative : List Float → List Float
derivative a = tab (λ i. whole (i + 1) ⊗ get_or a (i + 1) nan) (length a - 1) 0

-- 12; then a candidate at each root
unfoldable pub at_roots : Curve → Interval → Colleague → List Candidate → Outcome (List Candidate)
at_roots c v m l = bind (roots_for m 15) (λ r. candidates_for c (scaled v r) l)

-- 10, 11
unfoldable pub of_coefficients : Curve → Interval → List Float → List Candidate → Outcome (List Candidate)
of_coefficients c v a l = bind (colleague_for (derivative a)) (λ m. at_roots c v m l)

unfoldable pub of_errors : Curve → Interval → List Float → List Candidate → Outcome (List Candidate)
of_errors c v e l = bind (coefficients_for e (length e)) (λ a. of_coefficients c v a l)

unfoldable pub inside_of : Curve → List Float → Interval → List Candidate → Outcome (List Candidate)
inside_of c nodes v l = bind (errors_for c (scaled v nodes)) (λ e. of_errors c v e l)
