-- `envelope_inner::segment` meets its contract: each return is what the definition picks under the tests that led
-- there. Assumes nothing.
use lib.Ieee.{round, of_bits}
use Rattle.numbers.specs.F32.{decimal}
use Rattle.envelope_stages.specs.Stages.{jump}
use Rattle.envelope_inner.specs.Envelope.{segment, bent}
use Rattle.envelope_inner.proofs.segment.Goals as goal

pub returns-then-not-reshape : goal.returns-then-not-reshape
unfolding segment
returns-then-not-reshape c = simp c.if-not-reshape.true c.line.ensures

pub returns-then-from-to : goal.returns-then-from-to
unfolding segment bent jump decimal round of_bits
returns-then-from-to c =
    simp (
      c.if-not-reshape.false,
      c.if-from-to.true,
      c.line-then-from-to.ensures,
      c.f32_max-then-from-to.ensures,
      c.f32_max.ensures,
    )

pub returns : goal.returns
unfolding segment
returns c = simp (c.if-not-reshape.false, c.if-from-to.false) c.line-2.ensures
