-- `dx_units_inner::amp_mod_sensitivity` meets its contract. Assumes nothing.
use mathlib.Core.Path.{refl}
use lib.Ieee.{of_bits}
use Rattle.numbers.specs.F32.{decimal}
use Rattle.dx_units_inner.specs.Tables.{lut_amp_mod_sensitivity}
use Rattle.dx_units_inner.specs.Units.{amp_mod_sensitivity_of}
use Rattle.dx_units_inner.proofs.amp_mod_sensitivity.Goals as goal

pub returns : goal.returns
unfolding amp_mod_sensitivity_of lut_amp_mod_sensitivity decimal of_bits
returns c = refl
