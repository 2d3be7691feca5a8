-- `dx_units_power::pow_2_fast_1` meets its contract. Assumes nothing.
use Rattle.std.proofs.Common.{pos, refl, rules}
use lib.Ieee.{Float, of_bits}
use Rattle.numbers.specs.F32.{◌⊕◌, ◌⊗◌, decimal}
use Rattle.numbers.proofs.Signed.{back}
use Rattle.numbers.proofs.Casts.{fast_in}
use Rattle.dx_units_power.proofs.Orders.{first_order}
use Rattle.dx_units_power.proofs.Reach.{a_pattern, pattern_whole, pattern_below, no_nan, in_one_cast}
use Rattle.dx_units_power.proofs.pow_2_fast_1.Goals as goal

abbrev product : Float → Float
product x = decimal 8388608 0 ⊗ (decimal 127 0 ⊕ x)

pub float_to_int-result : goal.float_to_int-result
unfolding decimal of_bits
float_to_int-result c =
    let y = product c.args.x in
    let p = a_pattern y c.if-y.true in
    fast_in y (search rules) (pattern_whole y p) (pattern_below y p)

pub float_from_bits-result : goal.float_from_bits-result
unfolding decimal of_bits
float_from_bits-result c =
    let y = product c.args.x in no_nan y (a_pattern y c.if-y.true)

pub returns-then-y : goal.returns-then-y
unfolding decimal of_bits
returns-then-y c =
    let x = c.args.x in in_one_cast x (a_pattern (product x) c.if-y.true)

pub returns : goal.returns
unfolding decimal of_bits
returns c =
    let n = c.f32_as_i32 in
    first_order c.args.x (pos 1) refl n.ensures (back n.result n.type_inv) c.cast_unsigned.ensures
    c.f32_from_bits.ensures
