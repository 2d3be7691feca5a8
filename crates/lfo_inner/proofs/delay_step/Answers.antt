-- `lfo_inner::delay_step` meets its contract. Assumes nothing.
use Rattle.lfo_inner.specs.Lfo.{delay_stepped}
use Rattle.numbers.specs.F32.{decimal}
use lib.Ieee.{of_bits}
use Rattle.lfo_inner.proofs.delay_step.Goals as goal

pub returns-then-delay_phase : goal.returns-then-delay_phase
unfolding delay_stepped decimal of_bits
returns-then-delay_phase c = simp (c.at_most_one.ensures, c.if-delay_phase.true)

pub returns : goal.returns
unfolding delay_stepped decimal of_bits
returns c = simp (c.at_most_one-2.ensures, c.if-delay_phase.false)
