-- `units::lut_pitch_ratio_low` meets its contract. Assumes nothing.
use mathlib.Core.Path.{refl}
use lib.Ieee.{of_bits}
use Rattle.numbers.specs.F32.{decimal}
use Rattle.units.specs.Tables.{lut_pitch_ratio_low}
use Rattle.units.proofs.lut_pitch_ratio_low.Goals as goal

pub returns : goal.returns
unfolding lut_pitch_ratio_low decimal of_bits
returns c = refl
