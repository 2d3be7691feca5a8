-- `voice_levels::note_frequency` meets its contract. Assumes nothing.
use lib.Ieee.{of_bits}
use Rattle.numbers.specs.F32.{decimal}
use Rattle.voice_levels.specs.Levels.{note_frequency}
use Rattle.voice_levels.proofs.note_frequency.Goals as goal

pub returns : goal.returns
unfolding note_frequency decimal of_bits
returns c = simp c.semitones_to_ratio_lent.ensures
