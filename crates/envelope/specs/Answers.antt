-- What each entry answers: 9 for a state with a stage above 3, then 6 for a number above its largest, else the work. A
-- refusal hands a state that would change back as it came. Definitions only.
use Rattle.std.specs.Prelude.{Bool, ◌&&◌, cond, List, ℕ, leb, Float, Result, Ok, Err}
use Rattle.patch.specs.Packed.{stages_fit}
use Rattle.envelope_inner.specs.declared.Envelope.{Envelope}
use Rattle.envelope_inner.specs.Envelope.{is_stage, value_at, current_value, rendered}
use Rattle.envelope_inner.specs.Set.{set_to, operator_set, pitch_set}
use Rattle.envelope_inner.specs.Scrub.{scrubbed}
use Rattle.envelope.specs.declared.Rendered.{Rendered}
use Rattle.refusals.specs.Answer.{refused}
use Rattle.refusals.specs.declared.Refusal.{Refusal}
use Rattle.refusals.specs.declared.Refusal.TheVariants.{Field, ForeignState}
use Rattle.refusals.specs.declared.Refused.{Refused}

-- ---- what is refused

-- a state's stage is at most 3; otherwise 9
abbrev pub state_fits : Envelope → Bool
state_fits e = is_stage e.stage

abbrev pub state_checked : Envelope → Result (Unit {0}) (Refused Envelope)
state_checked e = cond (state_fits e) (Ok tt) (refused ForeignState e)

-- rates and levels are at most 99; otherwise 6
unfoldable pub pitch_fits : List ℕ → List ℕ → Bool
pitch_fits rate level = stages_fit rate && stages_fit level

-- and a global level at most 127
unfoldable pub operator_fits : List ℕ → List ℕ → ℕ → Bool
operator_fits rate level global_level = pitch_fits rate level && leb global_level 127

-- ---- the answers

-- an envelope's own increments and levels have no range
unfoldable pub set_answer : Envelope → List Float → List Float → Result Envelope (Refused Envelope)
set_answer e increment level = cond (state_fits e) (Ok (set_to e increment level)) (refused ForeignState e)

unfoldable pub operator_set_answer : Envelope → List ℕ → List ℕ → ℕ → Result Envelope (Refused Envelope)
operator_set_answer e rate level global_level =
    cond (state_fits e)
    (cond (operator_fits rate level global_level) (Ok (operator_set e rate level global_level)) (refused Field e))
    (refused ForeignState e)

unfoldable pub pitch_set_answer : Envelope → List ℕ → List ℕ → Result Envelope (Refused Envelope)
pitch_set_answer e rate level =
    cond (state_fits e) (cond (pitch_fits rate level) (Ok (pitch_set e rate level)) (refused Field e))
    (refused ForeignState e)

unfoldable pub render_answer : Bool → Bool → Float → Float → Float → Envelope → Result Rendered (Refused Envelope)
render_answer reshape gate rate ad_scale release_scale e =
    let r = rendered reshape gate rate ad_scale release_scale e in
    cond (state_fits e) (Ok (record { envelope = r; value = current_value reshape r })) (refused ForeignState e)

-- the envelope that a caller goes on with after a step
abbrev pub envelope_after : Result Rendered (Refused Envelope) → Envelope
envelope_after (Ok r) = r.envelope
envelope_after (Err e) = e.state

-- the scrub with one call of its own, which is enough (`asks_once`)
unfoldable pub scrub_answer : Bool → Envelope → Float → Float → Result Float Refusal
scrub_answer reshape e t gate_duration =
    cond (state_fits e) (Ok (scrubbed 1 reshape e t gate_duration)) (Err ForeignState)

unfoldable pub current_value_answer : Bool → Envelope → Result Float Refusal
current_value_answer reshape e = cond (state_fits e) (Ok (current_value reshape e)) (Err ForeignState)

-- a stage that is asked for is at most 3, too; otherwise 6
unfoldable pub value_answer : Bool → Envelope → ℕ → Float → Float → Result Float Refusal
value_answer reshape e stage phase start =
    cond (state_fits e) (cond (is_stage stage) (Ok (value_at reshape e stage phase start)) (Err Field))
    (Err ForeignState)
