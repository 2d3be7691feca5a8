-- `patch_limits::modulations_fit` meets its contract. The tests are the table's, in layout order. Assumes nothing.
use mathlib.Core.Bool.{and_assoc, and-true}
use Rattle.patch.specs.Packed.{within, modulations_fit}
use Rattle.patch.specs.Form.{lfo_number}
use Rattle.patch.specs.Layout.{lfo_field, lfo_names}
use Rattle.patch_limits.proofs.modulations_fit.Goals as goal

pub returns : goal.returns
unfolding modulations_fit within lfo_names lfo_field lfo_number
returns c = simp (and_assoc, and-true)
