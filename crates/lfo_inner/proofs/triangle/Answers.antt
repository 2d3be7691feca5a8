-- `lfo_inner::triangle` meets its contract. Assumes nothing.
use Rattle.lfo_inner.specs.Lfo.{triangle_wave}
use Rattle.numbers.specs.F32.{decimal}
use lib.Ieee.{of_bits}
use Rattle.lfo_inner.proofs.triangle.Goals as goal

pub returns-then-phase : goal.returns-then-phase
unfolding triangle_wave decimal of_bits
returns-then-phase c = simp c.if-phase.true

pub returns : goal.returns
unfolding triangle_wave decimal of_bits
returns c = simp c.if-phase.false
