-- `dx_units_inner::lut_coarse` meets its contract. Assumes nothing.
use mathlib.Core.Path.{refl}
use lib.Ieee.{of_bits}
use Rattle.numbers.specs.F32.{decimal, minus_decimal}
use Rattle.dx_units_inner.specs.Tables.{lut_coarse}
use Rattle.dx_units_inner.proofs.lut_coarse.Goals as goal

pub returns : goal.returns
unfolding lut_coarse decimal minus_decimal of_bits
returns c = refl
