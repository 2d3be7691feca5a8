-- `lfo_inner::square` meets its contract. Assumes nothing.
use Rattle.lfo_inner.specs.Lfo.{square_wave}
use Rattle.numbers.specs.F32.{decimal}
use lib.Ieee.{of_bits}
use Rattle.lfo_inner.proofs.square.Goals as goal

pub returns-then-phase : goal.returns-then-phase
unfolding square_wave decimal of_bits
returns-then-phase c = simp c.if-phase.true

pub returns-else-phase : goal.returns-else-phase
unfolding square_wave decimal of_bits
returns-else-phase c = simp c.if-phase.false
