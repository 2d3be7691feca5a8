-- `numbers::f32_clamp_unit` meets its contract. Assumes nothing.
use lib.Ieee.{of_bits, round}
use Rattle.numbers.specs.F32.{decimal}
use Rattle.numbers.specs.Extremes.{clamped}
use Rattle.numbers.proofs.f32_clamp_unit.Goals as goal

pub returns : goal.returns
unfolding clamped decimal round of_bits
returns c = c.clamp.ensures.value
