-- `patch::unpack_whole` meets its contract. The parts are unpacked by their own functions, the single numbers are read
-- by `field`. Assumes nothing.
use Rattle.patch.specs.Packed.{bits_in, read_in, unpacked}
use Rattle.patch.specs.Form.{patch_with}
use Rattle.patch.specs.Layout.{field_of}
use Rattle.patch.proofs.unpack_whole.Goals as goal

pub returns : goal.returns
unfolding unpacked patch_with read_in bits_in field_of
returns c = cc
