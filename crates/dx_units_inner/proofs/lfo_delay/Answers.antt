-- `dx_units_inner::lfo_delay` meets its contract. Assumes nothing.
use mathlib.Core.Path.{◌∙◌}
use native.Mathlib.Nat.{max_comm}
use lib.Ieee.{of_bits}
use Rattle.numbers.specs.F32.{decimal}
use Rattle.dx_units_inner.proofs.Conversions.{delay_none, delay_some}
use Rattle.dx_units_inner.proofs.lfo_delay.Goals as goal

pub returns-then-delay-eq0 : goal.returns-then-delay-eq0
unfolding decimal of_bits
returns-then-delay-eq0 c = delay_none c.args.delay c.if-delay-eq0.true

pub returns : goal.returns
unfolding decimal of_bits
returns c =
    delay_some c.args.delay c.if-delay-eq0.false
    c.delay_steps-d.ensures (c.max-coarse.ensures ∙ max_comm _ _) c.u32_as_f32.ensures
    c.u32_as_f32-2.ensures
