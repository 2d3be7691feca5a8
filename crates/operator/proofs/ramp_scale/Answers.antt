-- `operator::ramp_scale` meets its contract.
-- Assumes nothing.
use lib.Ieee.{of_bits}
use Rattle.numbers.specs.F32.{decimal}
use Rattle.operator.specs.Sample.{ramp_scale}
use Rattle.operator.proofs.ramp_scale.Goals as goal

pub returns : goal.returns
unfolding ramp_scale decimal of_bits
returns c = simp c.u32_as_f32.ensures
