-- `operator::Operator::new` meets its contract.
-- Assumes nothing.
use mathlib.Core.Path.{refl}
use lib.Ieee.{of_bits}
use Rattle.numbers.specs.F32.{decimal}
use Rattle.operator.specs.Sample.{still}
use Rattle.operator.proofs.Operator.new.Goals as goal

pub returns : goal.returns
unfolding still decimal of_bits
returns c = refl
