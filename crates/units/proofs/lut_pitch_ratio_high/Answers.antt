-- `units::lut_pitch_ratio_high` meets its contract. Assumes nothing.
use mathlib.Core.Path.{refl}
use lib.Ieee.{of_bits}
use Rattle.numbers.specs.F32.{decimal}
use Rattle.units.specs.Tables.{lut_pitch_ratio_high}
use Rattle.units.proofs.lut_pitch_ratio_high.Goals as goal

pub returns : goal.returns
unfolding lut_pitch_ratio_high decimal of_bits
returns c = refl
