-- The scrub of envelope.rs: the value at any time after the gate opened, from the stages' durations alone. `scrubbed`
-- counts the calls of itself that are allowed, a way of computing: one is enough (`asks_once`). Definitions only.
use Rattle.std.specs.Prelude.{Bool, cond, List, ℕ, zero, suc, ltb, get_or, Float}
use Rattle.std.specs.Float.{nan}
use Rattle.std.specs.Float.Ieee.{lt, le}
use Rattle.numbers.specs.F32.{◌⊖◌, ◌⊗◌, ◌⊘◌, decimal}
use Rattle.envelope_inner.specs.declared.Envelope.{Envelope}
use Rattle.envelope_inner.specs.declared.Reached.{Reached}
use Rattle.envelope_inner.specs.Envelope.{increment_at, level_at, previous_level, value_at}

-- how long a stage lasts
abbrev pub duration : List Float → ℕ → Float
duration increment stage = decimal 1 0 ⊘ get_or increment stage nan

-- so many stages from a stage on are passed as long as the time lasts; the stage where it ends, and the time left there
unfoldable pub reached : ℕ → ℕ → List Float → Float → Reached
reached zero stage increment t = record { stage = stage; t = t }
reached (suc n) stage increment t =
    cond (lt t (duration increment stage))
    (record { stage = stage; t = t })
    (reached n (suc stage) increment (t ⊖ duration increment stage))

-- past all stages, at the time past the gate's end: up to that end the level of the third stage, itself and not lifted,
-- and past the end of the last stage its level; a phase of exactly 1 is not past it
unfoldable pub past_stages : Bool → Envelope → Float → Float
past_stages reshape e t =
    let phase = t ⊗ increment_at e 3 in
    cond (le t (decimal 0 0)) (level_at e 2)
    (cond (lt (decimal 1 0) phase) (level_at e 3) (value_at reshape e 3 phase previous_level))

-- at a time of an open gate: in one of the first three stages, or past them all
unfoldable pub held : Bool → Envelope → Float → Float → Float
held reshape e t gate_duration =
    let p = reached 3 0 e.increment t in
    cond (ltb p.stage 3)
    (value_at reshape e p.stage (p.t ⊗ increment_at e p.stage) previous_level)
    (past_stages reshape e (p.t ⊖ gate_duration))

-- at a time after the gate's end, from the level there; a phase of exactly 1 ends the release here
unfoldable pub released : Bool → Envelope → Float → Float → Float
released reshape e t start =
    let phase = t ⊗ increment_at e 3 in
    cond (le (decimal 1 0) phase) (level_at e 3) (value_at reshape e 3 phase start)

-- with so many calls of itself allowed: past the gate's end it asks itself for the level there, which is once, since
-- the gate's end is not past itself
unfoldable pub scrubbed : ℕ → Bool → Envelope → Float → Float → Float
scrubbed zero reshape e t gate_duration = held reshape e t gate_duration
scrubbed (suc calls) reshape e t gate_duration =
    cond (lt gate_duration t)
    (released reshape e (t ⊖ gate_duration) (scrubbed calls reshape e gate_duration gate_duration))
    (held reshape e t gate_duration)
