-- `envelope_stages::pitch_stage_increment` meets its contract. Assumes nothing.
use lib.Ieee.{round, of_bits}
use Rattle.numbers.specs.F32.{decimal}
use Rattle.envelope_stages.specs.Stages.{pitch_stage_increment}
use mathlib.Core.Path.{sym}
use Rattle.envelope_stages.proofs.pitch_stage_increment.Goals as goal

pub returns-then-from-to : goal.returns-then-from-to
unfolding pitch_stage_increment decimal round of_bits
returns-then-from-to c = simp (sym c.pitch_envelope_increment-increment.ensures, c.if-from-to.true, c.f32_abs.ensures)

pub returns-then-last : goal.returns-then-last
unfolding pitch_stage_increment decimal round of_bits
returns-then-last c = simp (sym c.pitch_envelope_increment-increment.ensures, c.if-from-to.false, c.if-last.true)

pub returns : goal.returns
unfolding pitch_stage_increment decimal round of_bits
returns c = simp (sym c.pitch_envelope_increment-increment.ensures, c.if-from-to.false, c.if-last.false)
