-- What each entry of the LFO answers: document 01's refusals in its order, then the LFO's own work. A refusal hands
-- back the LFO, and the generator's number beside it, as they came. Definitions only.
use Rattle.std.specs.Prelude.{Bool, ◌&&◌, cond, List, pos, Float, Result, Ok, Err}
use Rattle.std.specs.Float.Ieee.{lt, le}
use Rattle.std.specs.Float.Ieee.Scale.{finite}
use Rattle.numbers.specs.F32.{◌⊗◌, ◌⊘◌, decimal}
use Rattle.refusals.specs.declared.Refusal.{Refusal}
use Rattle.refusals.specs.declared.Refusal.TheVariants.{SampleRate, Field, Parameter, ForeignState}
use Rattle.refusals.specs.declared.Refused.{Refused}
use Rattle.refusals.specs.Answer.{refused}
use Rattle.patch.specs.declared.ModulationParameters.{ModulationParameters}
use Rattle.patch.specs.Layout.{lfo_sensitivity}
use Rattle.patch.specs.Packed.{modulations_fit}
use Rattle.patch_limits.specs.Ranges.{sample_rate_fits}
use Rattle.lfo_inner.specs.declared.Lfo.{Lfo}
use Rattle.lfo_inner.specs.declared.Motion.{Motion}
use Rattle.lfo_inner.specs.Lfo.{fresh_lfo, adjusted, moved_to, restarted, stepped, scrubbed, settled}
use Rattle.lfo_inner.specs.Lfo.{wave_at, ramp_of, pitch_mod_of, amp_mod_of}

-- ---- what is refused

-- finite and at least 0, as -0 is
unfoldable pub from_zero : Float → Bool
from_zero x = le (decimal 0 0) x && finite x

-- a state with 0 ≤ phase < 1 and a frequency that is finite and not negative (else 9)
unfoldable pub state_fits : Lfo → Bool
state_fits lfo = le (decimal 0 0) lfo.phase && lt lfo.phase (decimal 1 0) && from_zero lfo.frequency

-- a scale or a sample that is finite and at least 0, its product with the frequency below 1 for a step (else 7)
unfoldable pub step_fits : Lfo → Float → Bool
step_fits lfo scale = from_zero scale && lt (scale ⊗ lfo.frequency) (decimal 1 0)

-- and below 2 ^ 31 for a scrub (else 7)
unfoldable pub scrub_fits : Lfo → Float → Bool
scrub_fits lfo sample = from_zero sample && lt (sample ⊗ lfo.frequency) (decimal 2147483648 0)

-- an LFO that is accepted
abbrev pub checked : Lfo → Result Lfo (Refused Lfo)
checked lfo = cond (state_fits lfo) (Ok lfo) (refused ForeignState lfo)

-- ---- the answers

-- what a refused start hands out: all zeros but for a phase of 1, so that every other entry refuses it with 9
unfoldable pub no_lfo : Lfo
no_lfo = moved_to (fresh_lfo (decimal 0 0) (decimal 0 0)) (decimal 1 0) (decimal 0 0) (decimal 0 0) (pos 0)

unfoldable pub init_answer : Float → Result Lfo (Refused Lfo)
init_answer rate =
    cond (sample_rate_fits rate)
    (Ok (fresh_lfo (decimal 1 0 ⊘ rate) (decimal 1 1)))
    (refused SampleRate no_lfo)

-- a pitch sensitivity has a limit of its own here
unfoldable pub set_answer : Lfo → ModulationParameters → Result Lfo (Refused Lfo)
set_answer lfo m =
    cond (state_fits lfo)
    (cond (modulations_fit m lfo_sensitivity) (Ok (adjusted lfo m)) (refused Field lfo))
    (refused ForeignState lfo)

unfoldable pub reset_answer : Lfo → Result Lfo (Refused Lfo)
reset_answer lfo = cond (state_fits lfo) (Ok (restarted lfo)) (refused ForeignState lfo)

-- a motion, where its argument fits; otherwise 7
abbrev pub move_answer : Motion → Bool → Motion → Result Motion (Refused Motion)
move_answer motion fits there =
    cond (state_fits motion.lfo) (cond fits (Ok there) (refused Parameter motion)) (refused ForeignState motion)

unfoldable pub step_answer : List Float → Motion → Float → Result Motion (Refused Motion)
step_answer lut motion scale =
    move_answer motion (step_fits motion.lfo scale) (settled lut (stepped motion.lfo motion.state scale))

unfoldable pub scrub_answer : List Float → Motion → Float → Result Motion (Refused Motion)
scrub_answer lut motion sample =
    move_answer motion (scrub_fits motion.lfo sample) (settled lut (scrubbed motion.lfo motion.state sample))

-- a value read from an LFO
abbrev pub read_answer : Lfo → Float → Result Float Refusal
read_answer lfo value = cond (state_fits lfo) (Ok value) (Err ForeignState)

-- the wave where the LFO stands, which need not be the stored value
unfoldable pub value_answer : List Float → Lfo → Result Float Refusal
value_answer lut lfo = read_answer lfo (wave_at lut lfo)

unfoldable pub delay_ramp_answer : Lfo → Result Float Refusal
delay_ramp_answer lfo = read_answer lfo (ramp_of lfo.delay_phase)

unfoldable pub pitch_mod_answer : Lfo → Result Float Refusal
pitch_mod_answer lfo = read_answer lfo (pitch_mod_of lfo)

unfoldable pub amp_mod_answer : Lfo → Result Float Refusal
amp_mod_answer lfo = read_answer lfo (amp_mod_of lfo)
