-- `lfo_inner::set` meets its contract. Assumes nothing.
use Prim.Native.Nat.{◌<◌, ◌^◌}
use Rattle.lfo_inner.specs.Lfo.{adjusted}
use Rattle.numbers.proofs.Signed.{back}
use Rattle.numbers.specs.F32.{decimal}
use lib.Ieee.{of_bits}
use lib.Signed.{mag}
use native.Mathlib.Omega.{arith}
use Rattle.lfo_inner.proofs.set.Goals as goal

pub returns : goal.returns
unfolding adjusted decimal of_bits
returns c =
    let lfo = c.args.lfo in
    let held : mag lfo.phase_integral < 2 ^ 31 = omega arith in
    simp (
      c.lfo_frequency.ensures,
      c.from.ensures,
      c.pitch_mod_sensitivity-sensitivity.ensures,
      c.lfo_delay-delay.ensures,
      back lfo.phase_integral held,
    )
