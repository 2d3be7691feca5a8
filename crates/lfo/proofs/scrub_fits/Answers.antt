-- `lfo::scrub_fits` meets its contract. Assumes nothing.
use Rattle.lfo.specs.Answers.{scrub_fits}
use Rattle.numbers.specs.F32.{decimal}
use lib.Ieee.{of_bits}
use Rattle.lfo.proofs.scrub_fits.Goals as goal

pub returns : goal.returns
unfolding scrub_fits decimal of_bits
returns c = simp c.from_zero.ensures
