-- `lfo_inner::pitch_mod` meets its contract. Assumes nothing.
use Rattle.lfo_inner.specs.Lfo.{pitch_mod_of}
use Rattle.numbers.specs.F32.{decimal}
use lib.Ieee.{of_bits}
use Rattle.lfo_inner.proofs.pitch_mod.Goals as goal

pub returns : goal.returns
unfolding pitch_mod_of decimal of_bits
returns c = simp c.delay_ramp.ensures
