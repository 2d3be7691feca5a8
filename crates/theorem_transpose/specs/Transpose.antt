-- A block by document 01 alone, which knows no switch; a voice with its switch turned; and the shifted note.
-- Definitions only.
use Rattle.std.specs.Prelude.{Bool, cond, List, length, Float, Result, Ok, Err}
use Rattle.refusals.specs.declared.Refusal.TheVariants.{Parameter, BlockLength, ForeignState}
use Rattle.refusals.specs.declared.Refused.{Refused}
use Rattle.refusals.specs.Answer.{refused}
use Rattle.numbers.specs.F32.{◌⊕◌}
use Rattle.voice_note.specs.Note.{shift_of}
use Rattle.voice.specs.declared.Voice.{Voice}
use Rattle.voice.specs.Voice.{moving_of, tunings_of, contents_of, rebuilt}
use Rattle.voice.specs.Answers.{state_fits}
use Rattle.voice_render.specs.declared.Rendered.{Rendered}
use Rattle.voice_render.specs.declared.VoiceParameters.{VoiceParameters}
use Rattle.voice_render.specs.Setup.{set_up}
use Rattle.voice_render.specs.Block.{with_note, sounded}
use Rattle.voice_render.specs.Answers.{block_fits, parameters_fit, Answered, answered_by, block_refused, blank}
use Rattle.voice_render.specs.Answers.{sounding}

-- 9, 8, 7; a dirty voice's block is blank: it sets up, touches no buffer and does not record the gate
unfoldable pub plain_answer : List Float → List Float → List Float → Voice → VoiceParameters → List Float → Answered
plain_answer pairs high low v p block =
    cond (state_fits v)
    (cond (block_fits (length block))
    (cond (parameters_fit p)
    (cond v.dirty (blank (set_up high low v) block) (sounding (sounded pairs high low v p block)))
    (block_refused Parameter v block))
    (block_refused BlockLength v block))
    (block_refused ForeignState v block)

-- the voice with its switch on or off, and nothing else changed
unfoldable pub turned : Voice → Bool → Voice
turned v on = rebuilt v (moving_of v) (tunings_of v) (contents_of v) v.dirty on

-- an answer whose voice is turned
abbrev pub rendered_turned : Result Rendered (Refused Voice) → Bool → Result Rendered (Refused Voice)
rendered_turned (Ok r) on = Ok (record { marks = r.marks; voice = turned r.voice on })
rendered_turned (Err e) on = refused e.refusal (turned e.state on)

abbrev pub answer_turned : Answered → Bool → Answered
answer_turned a on = answered_by (rendered_turned a.answer on) a.block

-- the note plus the whole number transpose minus 24
unfoldable pub shifted_note : Voice → VoiceParameters → Float
shifted_note v p = p.note ⊕ shift_of v.patch.transpose

-- a block's parameters with the shifted note
unfoldable pub shifted : Voice → VoiceParameters → VoiceParameters
shifted v p = with_note p (shifted_note v p)
