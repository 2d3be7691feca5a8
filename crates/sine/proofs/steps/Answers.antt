-- `sine::steps` meets its contract. Assumes nothing.
use lib.Ieee.{of_bits, div, round}
use Rattle.numbers.specs.F32.{decimal}
use Rattle.sine.specs.Sine.{steps_of}
use Rattle.sine.proofs.steps.Goals as goal

pub returns : goal.returns
unfolding steps_of decimal of_bits div round
returns c = c.f32_as_u32.ensures
