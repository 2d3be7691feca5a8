-- `patch::unpack_scaling` meets its contract. Each field is read by `whole` or `field`. Assumes nothing.
use Rattle.patch.specs.Packed.{bits_in, read_in}
use Rattle.patch.specs.Form.{scaling_with}
use Rattle.patch.specs.Layout.{later, scaling_field}
use Rattle.patch.proofs.unpack_scaling.Goals as goal

pub returns : goal.returns
unfolding scaling_with read_in bits_in later scaling_field
returns c = cc
