-- `envelope_inner::hold` meets its contract. Assumes nothing.
use mathlib.Core.Path.{sym}
use borrow.Author.Tests.{lt-ltb, le-ltb}
use lib.Ieee.{round, of_bits}
use Rattle.numbers.specs.F32.{minus_decimal}
use Rattle.envelope_inner.specs.Envelope.{previous_level}
use Rattle.envelope_inner.specs.Scrub.{held}
use Rattle.envelope_inner.proofs.hold.Goals as goal

pub returns-then-stage-lt3 : goal.returns-then-stage-lt3
unfolding held previous_level minus_decimal round of_bits
returns-then-stage-lt3 c =
    simp (sym c.reach-stage.ensures, lt-ltb _ _ c.if-stage-lt3.true) (rw c.pick.ensures at c.value.ensures)

pub returns : goal.returns
unfolding held
returns c = simp (sym c.reach-stage.ensures, le-ltb _ _ c.if-stage-lt3.false) c.past_stages.ensures
