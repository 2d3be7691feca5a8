-- What a voice's setup and its block answer, refused input and buffers included, in document 01's order. Definitions
-- only.
use Rattle.std.specs.Prelude.{ℕ, ◌%◌, Bool, true, false, cond, ◌&&◌, List, eqb, leb, length, Float, Result, Ok, Err}
use Rattle.refusals.specs.declared.Refusal.{Refusal}
use Rattle.refusals.specs.declared.Refusal.TheVariants.{Parameter, BlockLength, ForeignState}
use Rattle.refusals.specs.declared.Refused.{Refused}
use Rattle.refusals.specs.Answer.{refused}
use Rattle.numbers.specs.F32.{decimal, minus_decimal}
use Rattle.dx_units_step.specs.declared.Mark.{Mark}
use Rattle.patch_limits.specs.Ranges.{between, note_fits, unit_fits}
use Rattle.voice_levels.specs.Levels.{all_as_asked}
use Rattle.voice.specs.declared.Voice.{Voice}
use Rattle.voice.specs.Answers.{state_fits}
use Rattle.voice_render.specs.declared.VoiceParameters.{VoiceParameters}
use Rattle.voice_render.specs.declared.Readied.{Readied}
use Rattle.voice_render.specs.declared.Rendered.{Rendered}
use Rattle.voice_render.specs.Setup.{set_up}
use Rattle.voice_render.specs.Block.{played_by, Sounded, sounded}

-- ---- what is refused

-- else 8: a multiple of 4, at most 4,096 numbers
unfoldable pub block_fits : ℕ → Bool
block_fits size = eqb (size % 4) 0 && leb size 4096

-- else 7
unfoldable pub parameters_fit : VoiceParameters → Bool
parameters_fit p =
    note_fits p.note
    && unit_fits p.velocity
    && unit_fits p.brightness
    && unit_fits p.envelope_control
    && between (minus_decimal 4 0) (decimal 4 0) p.pitch_mod
    && unit_fits p.amp_mod

-- else 7 in a block of this voice: the parameters first, then the note that it plays
unfoldable pub parameters_fit_for : Voice → VoiceParameters → Bool
parameters_fit_for v p = parameters_fit p && note_fits (played_by v p).note

-- 9, 8, 7
unfoldable pub checked : Voice → VoiceParameters → ℕ → Result (Unit {0}) Refusal
checked v p size =
    cond (state_fits v)
    (cond (block_fits size) (cond (parameters_fit_for v p) (Ok tt) (Err Parameter)) (Err BlockLength))
    (Err ForeignState)

-- ---- the answers

abbrev pub readied : Bool → Voice → Result Readied (Refused Voice)
readied was_dirty v = Ok (record { was_dirty = was_dirty; voice = v })

-- the voice that a caller goes on with
abbrev pub voice_readied : Result Readied (Refused Voice) → Voice
voice_readied (Ok r) = r.voice
voice_readied (Err e) = e.state

-- 9 only; a dirty voice is set up, and a clean one stays as it is
unfoldable pub setup_answer : List Float → List Float → Voice → Result Readied (Refused Voice)
setup_answer high low v =
    cond (state_fits v) (cond v.dirty (readied true (set_up high low v)) (readied false v)) (refused ForeignState v)

-- marks for each operator and the voice, or a refusal; and the whole block after it
pub record Answered : Type 0 where
  pub answer : Result Rendered (Refused Voice)
  pub block : List Float

-- what a call gave, with the block after it
abbrev pub answered_by : Result Rendered (Refused Voice) → List Float → Answered
answered_by answer block = record { answer = answer; block = block }

-- the marks that a block tells, whatever it answered: a refused one says as asked of every operator
abbrev pub marks_told : Result Rendered (Refused Voice) → List Mark
marks_told (Ok r) = r.marks
marks_told (Err e) = all_as_asked

-- the voice that a caller goes on with
abbrev pub voice_rendered : Result Rendered (Refused Voice) → Voice
voice_rendered (Ok r) = r.voice
voice_rendered (Err e) = e.state

abbrev pub block_refused : Refusal → Voice → List Float → Answered
block_refused refusal v block = answered_by (refused refusal v) block

-- a blank block: every pitch is as asked
abbrev pub blank : Voice → List Float → Answered
blank v block = answered_by (Ok (record { marks = all_as_asked; voice = v })) block

abbrev pub sounding : Sounded → Answered
sounding s = answered_by (Ok (record { marks = s.marks; voice = s.voice })) s.block

-- 9, 8, 7; a dirty voice's block is blank: it sets up, touches no buffer and does not record the gate
unfoldable pub render_answer : List Float → List Float → List Float → Voice → VoiceParameters → List Float → Answered
render_answer pairs high low v p block =
    cond (state_fits v)
    (cond (block_fits (length block))
    (cond (parameters_fit_for v p)
    (cond v.dirty (blank (set_up high low v) block) (sounding (sounded pairs high low v (played_by v p) block)))
    (block_refused Parameter v block))
    (block_refused BlockLength v block))
    (block_refused ForeignState v block)
