-- `patch_limits::sample_rate_fits` meets its contract. Assumes nothing.
use Rattle.patch_limits.specs.Ranges.{sample_rate_fits}
use Rattle.numbers.specs.F32.{decimal}
use lib.Ieee.{of_bits}
use Rattle.patch_limits.proofs.sample_rate_fits.Goals as goal

pub returns : goal.returns
unfolding sample_rate_fits decimal of_bits
returns c = c.between.ensures
