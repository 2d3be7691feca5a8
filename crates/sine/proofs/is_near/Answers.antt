-- `sine::is_near` meets its contract. Assumes nothing.
use mathlib.Core.Path.{refl}
use lib.Ieee.{of_bits, neg, div, round}
use Rattle.numbers.specs.F32.{decimal, minus_decimal}
use Rattle.sine.specs.Sine.{near_by}
use Rattle.sine.proofs.is_near.Goals as goal

pub returns : goal.returns
unfolding near_by decimal minus_decimal of_bits neg div round
returns c = refl
