-- `dx_units_inner::pitch_envelope_level` meets its contract. Assumes nothing.
use lib.Ieee.{of_bits}
use Rattle.numbers.specs.F32.{decimal}
use Rattle.dx_units_inner.proofs.Conversions.{pitch_level}
use Rattle.dx_units_inner.proofs.pitch_envelope_level.Goals as goal

pub returns : goal.returns
unfolding decimal of_bits
returns c =
    pitch_level c.args.level c.f32_abs.ensures c.f32_max-tail.ensures
