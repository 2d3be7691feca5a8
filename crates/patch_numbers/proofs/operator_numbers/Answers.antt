-- `patch_numbers::operator_numbers` meets its contract. Assumes nothing.
use mathlib.Core.Path.{refl}
use Rattle.patch.specs.Layout.{envelope_names, scaling_names, operator_names}
use Rattle.patch.specs.Form.{envelope_number, scaling_number, operator_number}
use Rattle.patch_numbers.specs.Numbers.{operator_numbers}
use Rattle.patch_numbers.proofs.operator_numbers.Goals as goal

pub returns : goal.returns
unfolding operator_numbers operator_names envelope_names scaling_names operator_number envelope_number scaling_number
returns c = refl
