-- `dx_units_step::frequency_step` meets its contract. Assumes nothing.
use lib.Ieee.{of_bits}
use Rattle.numbers.specs.F32.{decimal}
use Rattle.dx_units_step.specs.Step.{step_for}
use Rattle.dx_units_step.proofs.frequency_step.Goals as goal

pub returns : goal.returns
unfolding step_for decimal of_bits
returns c = simp (c.mark_of-mark.ensures, c.f32_as_u32-step.ensures, c.f32_min.ensures)
