-- `dx_units_inner::pitch_mod_sensitivity` meets its contract. Assumes nothing.
use mathlib.Core.Path.{refl}
use lib.Ieee.{of_bits}
use Rattle.numbers.specs.F32.{decimal}
use Rattle.dx_units_inner.specs.Tables.{lut_pitch_mod_sensitivity}
use Rattle.dx_units_inner.specs.Units.{pitch_mod_sensitivity_of}
use Rattle.dx_units_inner.proofs.pitch_mod_sensitivity.Goals as goal

pub returns : goal.returns
unfolding pitch_mod_sensitivity_of lut_pitch_mod_sensitivity decimal of_bits
returns c = refl
