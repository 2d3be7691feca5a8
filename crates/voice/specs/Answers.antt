-- What each entry of a voice but its block answers, refused input included, in document 01's order. Definitions only.
use Rattle.std.specs.Prelude.{ℕ, Bool, true, cond, ◌&&◌, List, Float, Option, Some, None, Result, Ok, Err}
use Rattle.refusals.specs.declared.Refusal.{Refusal}
use Rattle.refusals.specs.declared.Refusal.TheVariants.{WrongTable, SampleRate, Field, ForeignState}
use Rattle.refusals.specs.declared.Refused.{Refused}
use Rattle.refusals.specs.Answer.{refused}
use Rattle.patch.specs.declared.Patch.{Patch}
use Rattle.patch.specs.Packed.{patch_fits}
use Rattle.patch_limits.specs.Ranges.{sample_rate_fits}
use Rattle.algorithms.specs.declared.Plan.{Plan}
use Rattle.algorithms.specs.declared.Compiled.{Compiled}
use Rattle.algorithms.specs.Plan.{counted, is_plan_of}
use Rattle.algorithms.specs.Table.{compiled}
use Rattle.envelope_inner.specs.Envelope.{is_stage, all_stages}
use Rattle.voice.specs.declared.Voice.{Voice}
use Rattle.voice.specs.Voice.{fresh_voice, no_voice, with_patch, without_patch, with_switch}

-- ---- what is refused

-- a stored patch that 6 accepts, a row that does not get 3 or 4, and that row's plan
unfoldable pub patch_sound : ℕ → Patch → List ℕ → Plan → Bool
patch_sound operators p row plan = patch_fits p && is_plan_of operators row plan

-- else 9: operators 4 or 6, no stage above 3, with a patch a sound one, without one dirty
unfoldable pub state_fits : Voice → Bool
state_fits v =
    counted v.operators
    && (all_stages v.operator_envelope
    && (is_stage v.pitch_envelope.stage
    && cond v.has_patch (patch_sound v.operators v.patch v.row v.plan) v.dirty))

-- ---- the answers

-- 9 only
unfoldable pub accepted : Voice → Result Voice (Refused Voice)
accepted v = cond (state_fits v) (Ok v) (refused ForeignState v)

-- 2, then 5; a refusal hands back a voice of no operators
unfoldable pub init_answer : ℕ → Float → Result Voice (Refused Voice)
init_answer operators rate =
    cond (counted operators)
    (cond (sample_rate_fits rate) (Ok (fresh_voice operators rate)) (refused SampleRate no_voice))
    (refused WrongTable no_voice)

-- the row that a patch names, compiled: 6, 2, 3, 4
unfoldable pub row_compiled : ℕ → Patch → List ℕ → Result Compiled Refusal
row_compiled operators p table = cond (patch_fits p) (compiled operators table p.algorithm) (Err Field)

-- what a compiled row makes of the voice
abbrev pub loaded : Voice → Patch → Result Compiled Refusal → Result Voice (Refused Voice)
loaded v p (Ok c) = Ok (with_patch v true p c.row c.plan)
loaded v p (Err refusal) = refused refusal v

-- 9, 6, 2, 3, 4
unfoldable pub set_patch_answer : Voice → Patch → List ℕ → Result Voice (Refused Voice)
set_patch_answer v p table =
    cond (state_fits v) (loaded v p (row_compiled v.operators p table)) (refused ForeignState v)

-- 9 only
unfoldable pub take_patch_answer : Voice → Result Voice (Refused Voice)
take_patch_answer v = cond (state_fits v) (Ok (without_patch v)) (refused ForeignState v)

-- 9 only
unfoldable pub set_transposing_answer : Voice → Bool → Result Voice (Refused Voice)
set_transposing_answer v on = cond (state_fits v) (Ok (with_switch v on)) (refused ForeignState v)

-- 9 only; a voice without a patch answers that there is none, whatever is stored in it
unfoldable pub patch_answer : Voice → Result (Option Patch) Refusal
patch_answer v = cond (state_fits v) (Ok (cond v.has_patch (Some v.patch) None)) (Err ForeignState)
