-- `voice::voice_with` meets its contract. Assumes nothing.
use Rattle.voice.specs.Voice.{voice_with}
use Rattle.numbers.specs.F32.{decimal}
use lib.Ieee.{of_bits}
use Rattle.algorithms.specs.Table.{six}
use Rattle.voice.proofs.voice_with.Goals as goal

pub returns : goal.returns
unfolding voice_with decimal of_bits six
returns c = simp (c.no_plan.ensures, c.new-2.ensures, c.new.ensures, c.init-e.ensures)
