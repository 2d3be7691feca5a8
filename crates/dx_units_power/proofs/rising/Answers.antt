-- `dx_units_power::rising` meets its contract. Assumes nothing.
use Rattle.std.proofs.Common.{◌≡◌, true, refl, arith}
use lib.Ieee.{Float, le, lt, of_bits}
use Rattle.numbers.specs.F32.{decimal}
use Rattle.dx_units_power.proofs.Reach.{Rising, is_rising, rising_count, rising_above, rising_under, exact}
use Rattle.dx_units_power.proofs.Reach.{risen}
use Rattle.dx_units_power.proofs.rising.Goals as goal

there : (x : Float) → (le (decimal 0 0) x ≡ true) × (lt x (decimal 127 0) ≡ true) → Rising x
unfolding decimal
there x h = is_rising x h.0 h.1

pub truncating_f32_to_u64-n-requires : goal.truncating_f32_to_u64-n-requires
truncating_f32_to_u64-n-requires c =
    record {
      lower_bound = rising_above c.args.x (there c.args.x c.requires);
      upper_bound = rising_under c.args.x (there c.args.x c.requires);
    }

pub overflow_cast-n : goal.overflow_cast-n
overflow_cast-n c = omega (arith, c.truncating_f32_to_u64-n.ensures, rising_count c.args.x (there c.args.x c.requires))

pub int_to_float-n : goal.int_to_float-n
int_to_float-n c =
    exact c.truncating_f32_to_u64-n.result
    (omega (arith, c.truncating_f32_to_u64-n.ensures, rising_count c.args.x (there c.args.x c.requires)))

pub returns : goal.returns
unfolding decimal of_bits
returns c =
    risen c.args.x (there c.args.x c.requires) c.truncating_f32_to_u64-n.ensures
    c.mantissa-m.ensures refl c.f32_from_bits.ensures
