-- `operator::feedback_scale` meets its contract.
-- Assumes nothing.
use lib.Ieee.{of_bits}
use borrow.Author.Tests.{eq-eqb, ne_eqb}
use Rattle.numbers.specs.F32.{decimal}
use Rattle.operator.specs.Sample.{feedback_scale_of}
use Rattle.operator.proofs.feedback_scale.Goals as goal

pub returns-then-amount-eq0 : goal.returns-then-amount-eq0
unfolding feedback_scale_of decimal of_bits
returns-then-amount-eq0 c = simp (eq-eqb _ _ c.if-amount-eq0.true)

pub returns : goal.returns
unfolding feedback_scale_of decimal of_bits
returns c =
    let not-zero = ne_eqb _ _ c.if-amount-eq0.false in
    simp (not-zero, c.u32_as_f32.ensures, c.wrapping_shl_u32.ensures)
