-- `lfo_inner::scrub_silent` meets its contract. Assumes nothing.
use Prim.Native.Nat.{◌<◌, ◌^◌}
use Rattle.lfo_inner.proofs.Scrubs.{scrubbed_from}
use Rattle.lfo_inner.proofs.Tests.{bits_differ}
use Rattle.numbers.proofs.Signed.{back}
use lib.Signed.{mag}
use native.Mathlib.Omega.{arith}
use Rattle.lfo_inner.proofs.scrub_silent.Goals as goal

pub returns : goal.returns
returns c =
    let lfo = c.args.motion.lfo in
    let n = c.f32_as_i32-phase_integral in
    let same = back n.result n.type_inv in
    let held : mag lfo.phase_integral < 2 ^ 31 = omega arith in
    scrubbed_from lfo c.args.motion.state c.args.sample n.ensures same same
    c.i32_as_f32.ensures (bits_differ n.result lfo.phase_integral n.type_inv held)
    c.draw_if-drawn.ensures
    c.delay_scrub-delay_phase.ensures c.move_to-there.ensures
