-- `lfo_inner::delay_ramp` meets its contract. Assumes nothing.
use Rattle.lfo_inner.specs.Lfo.{ramp_of}
use Rattle.numbers.specs.F32.{decimal}
use lib.Ieee.{of_bits}
use Rattle.lfo_inner.proofs.delay_ramp.Goals as goal

pub returns-then-delay_phase : goal.returns-then-delay_phase
unfolding ramp_of decimal of_bits
returns-then-delay_phase c = simp c.if-delay_phase.true

pub returns : goal.returns
unfolding ramp_of decimal of_bits
returns c = simp c.if-delay_phase.false
