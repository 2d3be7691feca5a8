-- `patch::unpack_modulations` meets its contract. Each field is read by `whole` or `field`. Assumes nothing.
use Rattle.patch.specs.Packed.{bits_in, read_in}
use Rattle.patch.specs.Form.{modulations_with}
use Rattle.patch.specs.Layout.{lfo_field}
use Rattle.patch.proofs.unpack_modulations.Goals as goal

pub returns : goal.returns
unfolding modulations_with read_in bits_in lfo_field
returns c = cc
