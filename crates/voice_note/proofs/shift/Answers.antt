-- `voice_note::shift` meets its contract. Assumes nothing.
use Rattle.voice_note.proofs.Shifts.{in_reach, shift_of_lem}
use Rattle.voice_note.proofs.shift.Goals as goal

pub overflow_sub-transpose : goal.overflow_sub-transpose
overflow_sub-transpose c = in_reach _ c.ranges.transpose.fits

pub returns : goal.returns
returns c = shift_of_lem _ c.ranges.transpose.fits c.i32_as_f32.ensures
