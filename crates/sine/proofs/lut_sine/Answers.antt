-- `sine::lut_sine` meets its contract. Assumes nothing.
use lib.Ieee.{of_bits}
use Rattle.numbers.specs.F32.{decimal, minus_decimal}
use mathlib.Core.Path.{refl}
use Rattle.sine.specs.Table.{lut_sine}
use Rattle.sine.proofs.lut_sine.Goals as goal

pub returns : goal.returns
unfolding lut_sine decimal minus_decimal of_bits
returns c = refl
