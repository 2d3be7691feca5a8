-- `voice_levels::amplitude` meets its contract. Assumes nothing.
use lib.Ieee.{neg, of_bits}
use Rattle.numbers.specs.F32.{decimal, minus_decimal}
use Rattle.voice_levels.specs.Levels.{amplitude_of}
use Rattle.voice_levels.proofs.amplitude.Goals as goal

pub returns : goal.returns
unfolding amplitude_of decimal minus_decimal of_bits neg
returns c = simp (c.pow_2_fast.ensures, c.level_mod.ensures, c.amp_mod_sensitivity.ensures)
