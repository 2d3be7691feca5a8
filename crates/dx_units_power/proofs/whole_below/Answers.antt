-- `dx_units_power::whole_below` meets its contract. Assumes nothing.
use lib.Ieee.{of_bits}
use Rattle.numbers.specs.F32.{decimal}
use Rattle.numbers.proofs.Signed.{back}
use Rattle.dx_units_power.proofs.Orders.{below_zero, at_zero_or_above}
use Rattle.dx_units_power.proofs.whole_below.Goals as goal

pub returns-then-x : goal.returns-then-x
unfolding decimal of_bits
returns-then-x c =
    let n = c.f32_as_i32-integral in
    let r = c.wrapping_sub_i32 in
    below_zero c.args.x c.if-x.true n.ensures (back n.result n.type_inv) r.ensures
    (back r.result r.type_inv)

pub returns : goal.returns
unfolding decimal of_bits
returns c =
    let n = c.f32_as_i32-integral in
    at_zero_or_above c.args.x c.if-x.false n.ensures (back n.result n.type_inv)
