-- `dx_units_inner::normalize_velocity` meets its contract. Assumes nothing.
use lib.Ieee.{of_bits}
use Rattle.numbers.specs.F32.{decimal}
use Rattle.dx_units_inner.specs.Tables.{lut_cube_root}
use Rattle.dx_units_inner.proofs.Conversions.{velocity}
use Rattle.dx_units_inner.proofs.normalize_velocity.Goals as goal

pub returns : goal.returns
unfolding lut_cube_root decimal of_bits
returns c =
    velocity c.args.velocity c.f32_min.ensures c.interpolate-cube_root.ensures
