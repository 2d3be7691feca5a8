-- A call of an entry of the LFO but its start, as data, with what the entry answers: whole runs are made of them (crate
-- `theorem_runs`). And what every LFO is like that calls leave, from a fresh one on. Definitions only.
use Rattle.std.specs.Prelude.{Bool, ◌&&◌, List, ℕ, T, Float, Result, Err}
use Rattle.std.specs.Float.{binary32}
use Rattle.std.specs.Float.Ieee.{le, fits}
use Rattle.numbers.specs.F32.{◌⊘◌, decimal}
use Rattle.patch.specs.declared.ModulationParameters.{ModulationParameters}
use Rattle.lfo_inner.specs.declared.Lfo.{Lfo}
use Rattle.lfo_inner.specs.declared.Motion.{Motion}
use Rattle.refusals.specs.declared.Refusal.{Refusal}
use Rattle.refusals.specs.declared.Refusal.TheVariants.{ForeignState}
use Rattle.refusals.specs.declared.Refused.{Refused}
use Rattle.refusals.specs.Answer.{refused, number_given, number_told, state_after}
use Rattle.lfo.specs.Answers.{state_fits, set_answer, reset_answer, step_answer}
use Rattle.lfo.specs.Answers.{scrub_answer, value_answer, delay_ramp_answer, pitch_mod_answer, amp_mod_answer}

-- a call with its arguments: `step`, `scrub` and `value` have the sine table that they are lent or, without `_with`,
-- the built-in one; the first two are handed the generator's number
pub data Call : Type 0 where
  Set : ModulationParameters → Call
  Reset : Call
  Step : List Float → ℕ → Float → Call
  Scrub : List Float → ℕ → Float → Call
  Value : List Float → Call
  DelayRamp : Call
  PitchMod : Call
  AmpMod : Call

-- what an entry answers; the generator's number comes back with a motion
pub data Answer : Type 0 where
  Prepares : Result Lfo (Refused Lfo) → Answer
  Moves : Result Motion (Refused Motion) → Answer
  Reads : Result Float Refusal → Answer

abbrev pub number_of : Answer → ℕ
number_of (Prepares a) = number_told a
number_of (Moves a) = number_told a
number_of (Reads a) = number_given a

-- the LFO that the next call gets: the answer's, or the same as before where it has none
abbrev pub lfo_after : Lfo → Answer → Lfo
lfo_after lfo (Prepares a) = state_after a
lfo_after lfo (Moves a) = (state_after a).lfo
lfo_after lfo (Reads a) = lfo

-- an LFO and the generator's number
abbrev pub beside : Lfo → ℕ → Motion
beside lfo state = record { lfo = lfo; state = state }

unfoldable pub answer_to : Call → Lfo → Answer
answer_to (Set m) lfo = Prepares (set_answer lfo m)
answer_to Reset lfo = Prepares (reset_answer lfo)
answer_to (Step lut state scale) lfo = Moves (step_answer lut (beside lfo state) scale)
answer_to (Scrub lut state sample) lfo = Moves (scrub_answer lut (beside lfo state) sample)
answer_to (Value lut) lfo = Reads (value_answer lut lfo)
answer_to DelayRamp lfo = Reads (delay_ramp_answer lfo)
answer_to PitchMod lfo = Reads (pitch_mod_answer lfo)
answer_to AmpMod lfo = Reads (amp_mod_answer lfo)

-- the refusal 9 of a call: the LFO and the generator's number as they came
unfoldable pub refusal_of : Call → Lfo → Answer
refusal_of (Set m) lfo = Prepares (refused ForeignState lfo)
refusal_of Reset lfo = Prepares (refused ForeignState lfo)
refusal_of (Step lut state scale) lfo = Moves (refused ForeignState (beside lfo state))
refusal_of (Scrub lut state sample) lfo = Moves (refused ForeignState (beside lfo state))
refusal_of (Value lut) lfo = Reads (Err ForeignState)
refusal_of DelayRamp lfo = Reads (Err ForeignState)
refusal_of PitchMod lfo = Reads (Err ForeignState)
refusal_of AmpMod lfo = Reads (Err ForeignState)

-- the part of a second that a sample takes, as a fresh LFO has it: from 1 / 192,000 to 1 / 8,000
unfoldable pub one_hz_fits : Float → Bool
one_hz_fits one_hz = le (decimal 1 0 ⊘ decimal 192000 0) one_hz && le one_hz (decimal 1 0 ⊘ decimal 8000 0)

-- a state that 9 accepts, with an f32 for its phase and a sample's part of a second as a fresh LFO has it
pub record Valid (lfo : Lfo) : Type 0 where
  pub accepted : T (state_fits lfo)
  pub phase_fits : T (fits binary32 lfo.phase)
  pub rate_fits : T (one_hz_fits lfo.one_hz)
