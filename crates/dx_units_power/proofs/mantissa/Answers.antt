-- `dx_units_power::mantissa` meets its contract. Assumes nothing.
use Rattle.std.proofs.Common.{◌≡◌, pos, rules}
use lib.Ieee.{of_bits}
use Rattle.numbers.specs.F32.{decimal}
use Rattle.dx_units_power.specs.Pow.{mantissa_bits}
use Rattle.dx_units_power.proofs.mantissa.Goals as goal

pub returns-in-2 : goal.returns-in-2
unfolding mantissa_bits decimal of_bits
returns-in-2 c = let e : c.args.order ≡ pos 2 = search rules in rw e c.f32_to_bits.ensures

pub returns-in-3 : goal.returns-in-3
unfolding mantissa_bits decimal of_bits
returns-in-3 c = let e : c.args.order ≡ pos 3 = search rules in rw e c.f32_to_bits-in-3.ensures
