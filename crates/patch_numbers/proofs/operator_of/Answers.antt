-- `patch_numbers::operator_of` meets its contract. Assumes nothing.
use Rattle.patch.specs.Form.{operator_with}
use Rattle.patch.specs.Positions.{operator_position}
use Rattle.patch_numbers.proofs.operator_of.Goals as goal

pub returns : goal.returns
unfolding operator_with operator_position
returns c = cc
