-- `dx_units_inner::operator_envelope_increment` meets its contract. Assumes nothing.
use lib.Ieee.{of_bits}
use Rattle.numbers.specs.F32.{decimal}
use Rattle.numbers.proofs.Signed.{back}
use Rattle.dx_units_inner.proofs.Conversions.{increment}
use Rattle.dx_units_inner.proofs.operator_envelope_increment.Goals as goal

pub returns : goal.returns
unfolding decimal of_bits
returns c =
    let n = c.u32_as_i32 in
    increment c.args.rate c.wrapping_shl_u32-bits.ensures n.ensures
    (back n.result n.type_inv)
    c.i32_as_f32.ensures
