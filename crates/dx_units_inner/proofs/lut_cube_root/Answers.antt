-- `dx_units_inner::lut_cube_root` meets its contract. Assumes nothing.
use mathlib.Core.Path.{refl}
use lib.Ieee.{of_bits}
use Rattle.numbers.specs.F32.{decimal}
use Rattle.dx_units_inner.specs.Tables.{lut_cube_root}
use Rattle.dx_units_inner.proofs.lut_cube_root.Goals as goal

pub returns : goal.returns
unfolding lut_cube_root decimal of_bits
returns c = refl
