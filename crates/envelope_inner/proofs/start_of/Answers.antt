-- `envelope_inner::start_of` meets its contract. Assumes nothing.
use lib.Ieee.{round, of_bits}
use Rattle.numbers.specs.F32.{minus_decimal}
use Rattle.envelope_inner.specs.Envelope.{previous_level, start_of}
use Rattle.envelope_inner.proofs.start_of.Goals as goal

pub returns-then-start_level : goal.returns-then-start_level
unfolding start_of previous_level minus_decimal round of_bits
returns-then-start_level c = simp c.if-start_level.true

pub returns-else-start_level : goal.returns-else-start_level
unfolding start_of previous_level minus_decimal round of_bits
returns-else-start_level c = simp c.if-start_level.false
