-- `operator::Operator::enter` meets its contract.
-- Assumes nothing.
use lib.Ieee.{of_bits}
use Rattle.numbers.specs.F32.{decimal}
use Rattle.operator.specs.Sample.{lane_of}
use Rattle.operator.proofs.Operator.enter.Goals as goal

pub returns : goal.returns
unfolding lane_of decimal of_bits
returns c = simp c.f32_min.ensures
