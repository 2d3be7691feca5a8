-- `envelope_inner::past_stages` meets its contract. Assumes nothing.
use lib.Ieee.{round, of_bits}
use Rattle.numbers.specs.F32.{decimal, minus_decimal}
use Rattle.envelope_inner.specs.Envelope.{previous_level}
use Rattle.envelope_inner.specs.Scrub.{past_stages}
use Rattle.envelope_inner.proofs.past_stages.Goals as goal

pub returns-then-t : goal.returns-then-t
unfolding past_stages decimal round of_bits
returns-then-t c = simp c.if-t.true

pub returns-then-phase : goal.returns-then-phase
unfolding past_stages decimal round of_bits
returns-then-phase c =
    simp (c.if-t.false, c.if-phase.true)

pub returns : goal.returns
unfolding past_stages previous_level decimal minus_decimal round of_bits
returns c =
    simp (c.if-t.false, c.if-phase.false) c.value.ensures
