-- `dx_units_power::pow_2_fast_2` meets its contract. Assumes nothing.
use lib.Ieee.{of_bits, neg}
use Rattle.numbers.specs.F32.{decimal, minus_decimal}
use Rattle.dx_units_power.proofs.pow_2_fast_2.Goals as goal

pub rising-requires : goal.rising-requires
unfolding decimal of_bits
rising-requires c = (c.if-x.true, c.if-x-2.true)

pub falling-requires : goal.falling-requires
unfolding decimal minus_decimal of_bits neg
falling-requires c = (c.if-x.false, c.if-x-3.true)
