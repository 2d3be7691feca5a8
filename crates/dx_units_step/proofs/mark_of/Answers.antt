-- `dx_units_step::mark_of` meets its contract. Assumes nothing.
use lib.Ieee.{of_bits}
use Rattle.numbers.specs.F32.{decimal}
use Rattle.dx_units_step.proofs.Marks.{tested_top, tested_zero, tested_asked}
use Rattle.dx_units_step.proofs.mark_of.Goals as goal

pub returns-then-frequency-is_nan : goal.returns-then-frequency-is_nan
unfolding decimal of_bits
returns-then-frequency-is_nan c = tested_top _ (rw (← c.is_nan.ensures.value) c.if-frequency-is_nan.true)

pub returns-then-frequency : goal.returns-then-frequency
unfolding decimal of_bits
returns-then-frequency c =
    tested_zero _ (rw (← c.is_nan.ensures.value) c.if-frequency-is_nan.false) c.if-frequency.true

pub returns : goal.returns
unfolding decimal of_bits
returns c = tested_asked _ (rw (← c.is_nan.ensures.value) c.if-frequency-is_nan.false) c.if-frequency.false
