-- `patch_numbers::operators_of` meets its contract. Operator k's numbers begin at 21 k. Assumes nothing.
use Rattle.patch.specs.Form.{patch_with}
use Rattle.patch.specs.Positions.{position}
use Rattle.patch_numbers.specs.Numbers.{patch_of}
use Rattle.patch_numbers.proofs.operators_of.Goals as goal

pub returns : goal.returns
unfolding patch_of patch_with position
returns c = cc
