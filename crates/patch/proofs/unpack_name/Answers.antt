-- `patch::unpack_name` meets its contract. Each letter is read by `field`. Assumes nothing.
use Rattle.std.proofs.Common.{arith}
use Rattle.std.proofs.lemmas.Grind.{common_steps}
use Rattle.patch.specs.Packed.{bits_in, read_in}
use Rattle.patch.specs.Form.{name_with}
use Rattle.patch.specs.Layout.{field_of}
use Rattle.patch.proofs.unpack_name.Goals as goal

pub returns : goal.returns
unfolding name_with read_in bits_in field_of
returns c = grind (arith, common_steps)
