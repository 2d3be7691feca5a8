-- `lfo::from_zero` meets its contract. Assumes nothing.
use Rattle.lfo.proofs.Tests.{finite_is}
use Rattle.lfo.specs.Answers.{from_zero}
use Rattle.numbers.specs.F32.{decimal}
use lib.Ieee.{of_bits}
use Rattle.lfo.proofs.from_zero.Goals as goal

pub returns : goal.returns
unfolding from_zero decimal of_bits
returns c = simp (c.is_finite.ensures.value, finite_is)
