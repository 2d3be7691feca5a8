-- `random::get_float` meets its contract. Assumes nothing.
use Rattle.random.specs.Random.{draw}
use Rattle.numbers.specs.F32.{decimal}
use lib.Ieee.{of_bits}
use Rattle.random.proofs.get_float.Goals as goal

pub returns : goal.returns
unfolding draw decimal of_bits
returns c = simp (c.u32_as_f32.ensures, c.get_word-word.ensures)
