-- `dx_units_inner::frequency_ratio` meets its contract. Assumes nothing.
use native.Mathlib.Omega.{arith}
use lib.Ieee.{of_bits}
use Rattle.numbers.specs.F32.{decimal}
use Rattle.dx_units_inner.proofs.Conversions.{to_note, to_hertz}
use Rattle.dx_units_inner.proofs.frequency_ratio.Goals as goal

pub returns-in-0 : goal.returns-in-0
unfolding decimal of_bits
returns-in-0 c =
    to_note c.args.high.now c.args.low.now c.args.mode c.args.coarse c.args.fine
    c.args.detune
    c.base_semitones.ensures c.semitones_to_ratio_lent.ensures
    c.fine_factor.ensures (omega arith)

pub returns-in_default : goal.returns-in_default
unfolding decimal of_bits
returns-in_default c =
    to_hertz c.args.high.now c.args.low.now c.args.mode c.args.coarse c.args.fine
    c.args.detune
    c.base_semitones.ensures c.semitones_to_ratio_lent.ensures
    c.fine_factor.ensures (omega arith)
