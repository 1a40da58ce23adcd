-- `fields::interpolant::interpolate_with` meets its contract. Assumes nothing.
use Rattle.std.proofs.Common.{rules, refl, sym, ◌∙◌}
use Rattle.std.proofs.lemmas.Result.{err_from_is_err_and}
use Rattle.numbers.proofs.OutcomeLaws.{bind_next, bind_stop, whole_is, whole_refused}
use Rattle.barycentric.specs.Weights.{weights_for}
use Rattle.barycentric.specs.Abscissas.{abscissas_for}
use Rattle.fields.specs.Interpolant.{interpolated}
use Rattle.fields.proofs.interpolant.interpolate_with.Goals as goal

pub returns-then-not-is_falling : goal.returns-then-not-is_falling
unfolding interpolated
returns-then-not-is_falling c = rw (sym c.is_falling.ensures ∙ c.if-not-is_falling.true)

pub returns-in_err-compute_barycentric_weights : goal.returns-in_err-compute_barycentric_weights
unfolding interpolated
returns-in_err-compute_barycentric_weights c =
    let p = err_from_is_err_and c.from_residual.result c.from_residual.ensures.1 in
    rw (p.1, p.2, sym c.is_falling.ensures ∙ c.if-not-is_falling.false)
    (bind_stop _ (whole_refused (weights_for _) _ c.compute_barycentric_weights.ensures c.requires.0.weights c.in_err-compute_barycentric_weights.was))

pub returns-in_err-desired_values : goal.returns-in_err-desired_values
unfolding interpolated
returns-in_err-desired_values c =
    let p = err_from_is_err_and c.from_residual-in_err-desired_values.result c.from_residual-in_err-desired_values.ensures.1 in
    rw (p.1, p.2, sym c.is_falling.ensures ∙ c.if-not-is_falling.false)
    (bind_next _ (whole_is (weights_for _) _ c.compute_barycentric_weights.ensures c.requires.0.weights refl (search rules) c.in_ok-compute_barycentric_weights.was)
    (bind_stop _ c.in_err-desired_values.ensures))

pub returns-in_err-error_weights : goal.returns-in_err-error_weights
unfolding interpolated
returns-in_err-error_weights c =
    let p = err_from_is_err_and c.from_residual-in_err-error_weights.result c.from_residual-in_err-error_weights.ensures.1 in
    rw (p.1, p.2, sym c.is_falling.ensures ∙ c.if-not-is_falling.false)
    (bind_next _ (whole_is (weights_for _) _ c.compute_barycentric_weights.ensures c.requires.0.weights refl (search rules) c.in_ok-compute_barycentric_weights.was)
    (bind_next _ c.in_ok-desired_values.ensures
    (bind_stop _ c.in_err-error_weights.ensures)))

pub returns-in_err-delta : goal.returns-in_err-delta
unfolding interpolated
returns-in_err-delta c =
    let p = err_from_is_err_and c.from_residual-in_err-delta.result c.from_residual-in_err-delta.ensures.1 in
    rw (p.1, p.2, sym c.is_falling.ensures ∙ c.if-not-is_falling.false)
    (bind_next _ (whole_is (weights_for _) _ c.compute_barycentric_weights.ensures c.requires.0.weights refl (search rules) c.in_ok-compute_barycentric_weights.was)
    (bind_next _ c.in_ok-desired_values.ensures
    (bind_next _ c.in_ok-error_weights.ensures
    (bind_stop _ c.in_err-delta.ensures))))

pub returns-in_err-compute_lagrange_abscisa : goal.returns-in_err-compute_lagrange_abscisa
unfolding interpolated
returns-in_err-compute_lagrange_abscisa c =
    let p = err_from_is_err_and c.from_residual-in_err-compute_lagrange_abscisa.result c.from_residual-in_err-compute_lagrange_abscisa.ensures.1 in
    rw (p.1, p.2, sym c.is_falling.ensures ∙ c.if-not-is_falling.false)
    (bind_next _ (whole_is (weights_for _) _ c.compute_barycentric_weights.ensures c.requires.0.weights refl (search rules) c.in_ok-compute_barycentric_weights.was)
    (bind_next _ c.in_ok-desired_values.ensures
    (bind_next _ c.in_ok-error_weights.ensures
    (bind_next _ c.in_ok-delta.ensures
    (bind_stop _ (whole_refused (abscissas_for _ _ _) _ c.compute_lagrange_abscisa.ensures c.requires.0.abscissas c.in_err-compute_lagrange_abscisa.was))))))

pub returns : goal.returns
unfolding interpolated
returns c =
    rw (sym c.is_falling.ensures ∙ c.if-not-is_falling.false)
    (bind_next _ (whole_is (weights_for _) _ c.compute_barycentric_weights.ensures c.requires.0.weights refl (search rules) c.in_ok-compute_barycentric_weights.was)
    (bind_next _ c.in_ok-desired_values.ensures
    (bind_next _ c.in_ok-error_weights.ensures
    (bind_next _ c.in_ok-delta.ensures
    (bind_next _ (whole_is (abscissas_for _ _ _) _ c.compute_lagrange_abscisa.ensures c.requires.0.abscissas
    ((search rules) ∙ c.requires.1) (search rules) c.in_ok-compute_lagrange_abscisa.was) refl)))))
