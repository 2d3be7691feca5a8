-- `envelope_inner::advance` meets its contract. Assumes nothing.
use borrow.Author.Tests.{lt-ltb, le-ltb}
use lib.Ieee.{round, of_bits}
use Rattle.numbers.specs.F32.{decimal, minus_decimal}
use Rattle.envelope_inner.specs.Envelope.{advanced, previous_level}
use Rattle.envelope_inner.proofs.advance.Goals as goal

pub returns-then-q-lt2 : goal.returns-then-q-lt2
unfolding advanced previous_level decimal minus_decimal round of_bits
returns-then-q-lt2 c = λ e. simp (c.if-phase.true, lt-ltb _ _ c.if-q-lt2.true)

pub returns-then-phase : goal.returns-then-phase
unfolding advanced previous_level decimal minus_decimal round of_bits
returns-then-phase c = λ e. simp (c.if-phase.true, le-ltb _ _ c.if-q-lt2.false)

pub returns : goal.returns
unfolding advanced decimal round of_bits
returns c = λ e. simp c.if-phase.false
