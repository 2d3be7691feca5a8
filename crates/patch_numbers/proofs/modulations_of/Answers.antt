-- `patch_numbers::modulations_of` meets its contract. Assumes nothing.
use mathlib.Core.Path.{refl}
use Rattle.patch.specs.Form.{modulations_with}
use Rattle.patch.specs.Positions.{lfo_position}
use Rattle.patch_numbers.proofs.modulations_of.Goals as goal

pub returns : goal.returns
unfolding modulations_with lfo_position
returns c = refl
