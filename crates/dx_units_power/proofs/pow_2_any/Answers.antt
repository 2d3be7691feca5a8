-- `dx_units_power::pow_2_any` meets its contract. Assumes nothing.
use mathlib.Core.Path.{refl}
use lib.Ieee.{of_bits}
use Rattle.numbers.specs.F32.{decimal}
use Rattle.numbers.proofs.Signed.{back}
use Rattle.dx_units_power.proofs.Orders.{other_order}
use Rattle.dx_units_power.proofs.pow_2_any.Goals as goal

pub returns : goal.returns
unfolding decimal of_bits
returns c =
    let n = c.whole_below-integral in
    other_order c.args.x c.args.order c.requires n.ensures (back n.result n.type_inv)
    c.i32_as_f32.ensures (back c.args.order c.ranges.order.sfits)
    c.mantissa-mantissa.ensures c.cast_unsigned-exponent.ensures refl refl c.f32_from_bits.ensures
