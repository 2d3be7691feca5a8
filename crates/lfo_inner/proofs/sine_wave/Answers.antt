-- `lfo_inner::sine_wave` meets its contract. Assumes nothing.
use Rattle.lfo_inner.specs.Lfo.{sine_wave}
use Rattle.numbers.specs.F32.{decimal}
use lib.Ieee.{of_bits}
use Rattle.lfo_inner.proofs.sine_wave.Goals as goal

pub returns : goal.returns
unfolding sine_wave decimal of_bits
returns c = simp c.sine.ensures.0
