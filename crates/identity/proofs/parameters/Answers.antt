-- `identity::parameters` meets its contract. Assumes nothing.
use Rattle.std.proofs.Common.{refl}
use lib.Ieee.{of_bits}
use Rattle.numbers.specs.F32.{decimal}
use Rattle.identity.specs.Identity.{parameters_of}
use Rattle.identity.proofs.parameters.Goals as goal

pub returns : goal.returns
unfolding parameters_of decimal of_bits
returns c = refl
