-- `dx_units_power::falling` meets its contract. Assumes nothing.
use Rattle.std.proofs.Common.{◌≡◌, ◌+◌, true, false, refl, arith}
use lib.Ieee.{Float, le, lt, of_bits}
use Rattle.numbers.specs.F32.{decimal, minus_decimal}
use Rattle.dx_units_power.proofs.Reach.{Falling, is_falling, falling_count, falling_above, falling_under, exact}
use Rattle.dx_units_power.proofs.Reach.{fallen}
use Rattle.dx_units_power.proofs.falling.Goals as goal

there : (x : Float) → (le (decimal 0 0) x ≡ false) × (lt (minus_decimal 126 0) x ≡ true) → Falling x
unfolding decimal minus_decimal
there x h = is_falling x h.0 h.1

pub truncating_f32_to_u64-requires : goal.truncating_f32_to_u64-requires
truncating_f32_to_u64-requires c =
    record {
      lower_bound = falling_above c.args.x (there c.args.x c.requires);
      upper_bound = falling_under c.args.x (there c.args.x c.requires);
    }

pub overflow_cast-n : goal.overflow_cast-n
overflow_cast-n c = omega (arith, c.truncating_f32_to_u64.ensures, falling_count c.args.x (there c.args.x c.requires))

pub overflow_add-n : goal.overflow_add-n
overflow_add-n c = omega (arith, c.truncating_f32_to_u64.ensures, falling_count c.args.x (there c.args.x c.requires))

pub int_to_float-n : goal.int_to_float-n
int_to_float-n c =
    exact (c.truncating_f32_to_u64.result + 1)
    (omega (arith, c.truncating_f32_to_u64.ensures, falling_count c.args.x (there c.args.x c.requires)))

pub returns : goal.returns
unfolding decimal of_bits
returns c =
    fallen c.args.x (there c.args.x c.requires) c.truncating_f32_to_u64.ensures
    c.mantissa-m.ensures refl c.f32_from_bits.ensures
