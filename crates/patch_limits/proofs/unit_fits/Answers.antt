-- `patch_limits::unit_fits` meets its contract. Assumes nothing.
use Rattle.numbers.specs.F32.{decimal}
use lib.Ieee.{of_bits}
use Rattle.patch_limits.proofs.unit_fits.Goals as goal

pub returns : goal.returns
unfolding decimal of_bits
returns c = c.between.ensures
