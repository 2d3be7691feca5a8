-- `dx_units_inner::pitch_envelope_increment` meets its contract. Assumes nothing.
use mathlib.Core.Path.{refl}
use lib.Ieee.{of_bits}
use Rattle.numbers.specs.F32.{decimal}
use Rattle.dx_units_inner.specs.Units.{pitch_envelope_increment}
use Rattle.dx_units_inner.proofs.pitch_envelope_increment.Goals as goal

pub returns : goal.returns
unfolding pitch_envelope_increment decimal of_bits
returns c = refl
