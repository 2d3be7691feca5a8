-- `sine::sine` meets its contract. Assumes nothing.
use lib.Ieee.{of_bits}
use Rattle.numbers.specs.F32.{decimal}
use Rattle.sine.specs.Sine.{sine_of}
use Rattle.sine.proofs.Places.{sine_within}
use Rattle.sine.proofs.sine.Goals as goal

pub returns : goal.returns
unfolding sine_of decimal of_bits
returns c =
    let q = c.interpolate_wrap.ensures in
    (q, sine_within c.args.lut.now c.args.phase q)
