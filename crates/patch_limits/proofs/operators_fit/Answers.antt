-- `patch_limits::operators_fit` meets its contract. Six operators, one by one. Assumes nothing.
use Rattle.patch.specs.Form.{operator_at, no_operator, scaling_with}
use Rattle.patch.specs.Packed.{operators_fit}
use Rattle.patch_limits.proofs.operators_fit.Goals as goal

pub returns : goal.returns
unfolding operators_fit operator_at no_operator scaling_with
returns c =
    rw (
      c.operator_fits-6.ensures,
      c.operator_fits-5.ensures,
      c.operator_fits-4.ensures,
      c.operator_fits-3.ensures,
      c.operator_fits-2.ensures,
      c.operator_fits.ensures,
    )
