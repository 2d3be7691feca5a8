-- `patch_numbers::scaling_of` meets its contract. Assumes nothing.
use mathlib.Core.Path.{refl}
use Rattle.patch.specs.Form.{scaling_with}
use Rattle.patch.specs.Positions.{scaling_position}
use Rattle.patch_numbers.proofs.scaling_of.Goals as goal

pub returns : goal.returns
unfolding scaling_with scaling_position
returns c = refl
