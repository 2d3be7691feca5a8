-- A call of an entry of a voice but its start, as data, with what the entry answers. Definitions only.
use Rattle.std.specs.Prelude.{ℕ, Bool, List, Float, Option, Result, Err}
use Rattle.refusals.specs.declared.Refusal.{Refusal}
use Rattle.refusals.specs.declared.Refusal.TheVariants.{ForeignState}
use Rattle.refusals.specs.declared.Refused.{Refused}
use Rattle.refusals.specs.Answer.{number_given, refused, number_told, state_after}
use Rattle.units.specs.Tables.{lut_pitch_ratio_high, lut_pitch_ratio_low}
use Rattle.patch.specs.declared.Patch.{Patch}
use Rattle.voice.specs.declared.Voice.{Voice}
use Rattle.voice.specs.Answers.{set_patch_answer, take_patch_answer, patch_answer, set_transposing_answer}
use Rattle.voice_render.specs.declared.Readied.{Readied}
use Rattle.voice_render.specs.declared.VoiceParameters.{VoiceParameters}
use Rattle.voice_render.specs.Answers.{voice_readied, setup_answer, Answered, voice_rendered, block_refused}
use Rattle.voice_render.specs.Answers.{render_answer}

-- a call with its arguments: a block has the three tables that it is lent or, without `_with`, the built-in ones, and
-- what its buffer holds before the call
pub data Call : Type 0 where
  SetPatch : Patch → List ℕ → Call
  TakePatch : Call
  GetPatch : Call
  SetTransposing : Bool → Call
  Setup : Call
  Render : List Float → List Float → List Float → VoiceParameters → List Float → Call

-- what an entry answers
pub data Answer : Type 0 where
  Prepares : Result Voice (Refused Voice) → Answer
  Tells : Result (Option Patch) Refusal → Answer
  Readies : Result Readied (Refused Voice) → Answer
  Renders : Answered → Answer

abbrev pub number_of : Answer → ℕ
number_of (Prepares a) = number_told a
number_of (Tells a) = number_given a
number_of (Readies a) = number_told a
number_of (Renders a) = number_told a.answer

-- the voice that the next call gets: the answer's, or the same as before where it has none
abbrev pub voice_after : Voice → Answer → Voice
voice_after v (Prepares a) = state_after a
voice_after v (Tells a) = v
voice_after v (Readies a) = voice_readied a
voice_after v (Renders a) = voice_rendered a.answer

unfoldable pub answer_to : Call → Voice → Answer
answer_to (SetPatch p table) v = Prepares (set_patch_answer v p table)
answer_to TakePatch v = Prepares (take_patch_answer v)
answer_to GetPatch v = Tells (patch_answer v)
answer_to (SetTransposing on) v = Prepares (set_transposing_answer v on)
answer_to Setup v = Readies (setup_answer lut_pitch_ratio_high lut_pitch_ratio_low v)
answer_to (Render pairs high low p block) v = Renders (render_answer pairs high low v p block)

-- the refusal 9 of a call: the voice and the buffer as they came
unfoldable pub refusal_of : Call → Voice → Answer
refusal_of (SetPatch p table) v = Prepares (refused ForeignState v)
refusal_of TakePatch v = Prepares (refused ForeignState v)
refusal_of GetPatch v = Tells (Err ForeignState)
refusal_of (SetTransposing on) v = Prepares (refused ForeignState v)
refusal_of Setup v = Readies (refused ForeignState v)
refusal_of (Render pairs high low p block) v = Renders (block_refused ForeignState v block)
