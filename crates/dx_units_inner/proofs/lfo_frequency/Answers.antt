-- `dx_units_inner::lfo_frequency` meets its contract. Assumes nothing.
use lib.Ieee.{of_bits}
use Rattle.numbers.specs.F32.{decimal}
use Rattle.dx_units_inner.proofs.Conversions.{frequency}
use Rattle.dx_units_inner.proofs.lfo_frequency.Goals as goal

pub returns : goal.returns
unfolding decimal of_bits
returns c = frequency c.args.rate c.lfo_steps.ensures c.u32_as_f32.ensures
