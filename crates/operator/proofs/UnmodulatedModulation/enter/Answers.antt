-- `operator::UnmodulatedModulation::enter` meets its contract. Assumes nothing.
use mathlib.Core.Path.{refl}
use lib.Ieee.{of_bits}
use Rattle.numbers.specs.F32.{decimal}
use Rattle.operator.specs.Chain.{entered}
use Rattle.operator.proofs.UnmodulatedModulation.enter.Goals as goal

pub returns : goal.returns
unfolding entered decimal of_bits
returns c = refl
