-- `dx_units_inner::rate_scaling` meets its contract. Assumes nothing.
use lib.Ieee.{of_bits}
use Rattle.numbers.specs.F32.{decimal}
use Rattle.dx_units_inner.specs.Units.{rate_scaling_of}
use Rattle.dx_units_inner.proofs.rate_scaling.Goals as goal

pub returns : goal.returns
unfolding rate_scaling_of decimal of_bits
returns c = c.pow_2_fast_1.ensures
