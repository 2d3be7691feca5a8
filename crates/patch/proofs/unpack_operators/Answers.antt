-- `patch::unpack_operators` meets its contract. Operator k is unpacked from byte 17 k. Assumes nothing.
use Rattle.patch.specs.Packed.{unpacked}
use Rattle.patch.specs.Form.{patch_with}
use Rattle.patch.specs.Layout.{field_of}
use Rattle.patch.proofs.unpack_operators.Goals as goal

pub returns : goal.returns
unfolding unpacked patch_with field_of
returns c = cc
