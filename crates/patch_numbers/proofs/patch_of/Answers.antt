-- `patch_numbers::patch_of` meets its contract. The parts are made by their own functions. Assumes nothing.
use Rattle.patch.specs.Form.{patch_with}
use Rattle.patch.specs.Positions.{position}
use Rattle.patch_numbers.specs.Numbers.{patch_of}
use Rattle.patch_numbers.proofs.patch_of.Goals as goal

pub returns : goal.returns
unfolding patch_of patch_with position
returns c = cc
