-- `patch_limits::scaling_fits` meets its contract. The tests are the table's, in layout order. Assumes nothing.
use mathlib.Core.Bool.{and_assoc, and-true}
use Rattle.patch.specs.Packed.{within, scaling_fits}
use Rattle.patch.specs.Form.{scaling_number}
use Rattle.patch.specs.Layout.{scaling_field, scaling_names}
use Rattle.patch_limits.proofs.scaling_fits.Goals as goal

pub returns : goal.returns
unfolding scaling_fits within scaling_names scaling_field scaling_number
returns c = simp (and_assoc, and-true)
