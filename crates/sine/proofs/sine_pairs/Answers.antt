-- `sine::sine_pairs` meets its contract. Assumes nothing.
use lib.Ieee.{of_bits, sub, add, sum, neg}
use Rattle.numbers.specs.F32.{decimal, minus_decimal}
use mathlib.Core.Path.{refl}
use Rattle.sine.specs.Table.{lut_sine}
use Rattle.sine.specs.Pairs.{pairs_of, sine_pairs}
use Rattle.sine.proofs.sine_pairs.Goals as goal

pub returns : goal.returns
unfolding sine_pairs pairs_of lut_sine decimal minus_decimal of_bits sub add sum neg
returns c = refl
