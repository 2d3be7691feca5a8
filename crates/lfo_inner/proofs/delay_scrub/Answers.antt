-- `lfo_inner::delay_scrub` meets its contract. Assumes nothing.
use Rattle.lfo_inner.specs.Lfo.{delay_scrubbed}
use Rattle.numbers.specs.F32.{decimal}
use lib.Ieee.{of_bits}
use Rattle.lfo_inner.proofs.delay_scrub.Goals as goal

pub returns-then-delay_phase : goal.returns-then-delay_phase
unfolding delay_scrubbed decimal of_bits
returns-then-delay_phase c = simp (c.at_most_one.ensures, c.if-delay_phase.true)

pub returns : goal.returns
unfolding delay_scrubbed decimal of_bits
returns c = simp c.if-delay_phase.false
