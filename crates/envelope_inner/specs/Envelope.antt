-- An envelope of four stages, after envelope.rs: its start, its value and its render, with one rounding per written
-- operation, in the Rust's order. `reshape` is true for an operator's envelope and false for pitch. A NaN compares
-- false everywhere. All is to be believed, but for `standing`, which says how a render computes: on a position.
-- Definitions only.
use Rattle.std.specs.Prelude.{Bool, true, ◌&&◌, cond, List, [], ◌∷◌, ℕ, ◌+◌, ◌^◌, eqb, leb, ltb, get_or, Float}
use Rattle.std.specs.Float.{nan}
use Rattle.std.specs.Float.Ieee.{lt, le, eq}
use Rattle.numbers.specs.F32.{◌⊕◌, ◌⊖◌, ◌⊗◌, ◌⊘◌, decimal, minus_decimal, as_float}
use Rattle.numbers.specs.Extremes.{maximum}
use Rattle.envelope_stages.specs.Stages.{per_stage, level_before, jump}
use Rattle.envelope_inner.specs.declared.Envelope.{Envelope}
use Rattle.envelope_inner.specs.declared.Position.{Position}

abbrev pub increment_at : Envelope → ℕ → Float
increment_at e stage = get_or e.increment stage nan

abbrev pub level_at : Envelope → ℕ → Float
level_at e stage = get_or e.level stage nan

-- at rest at the end of the last stage; the levels are halves of each other, but that the last is 0
unfoldable pub initialised : Float → Envelope
initialised scale = record {
  stage = 3;
  phase = decimal 1 0;
  start = decimal 0 0;
  increment = per_stage (λ i. decimal 1 3);
  level = per_stage (λ i. cond (ltb i 3) (decimal 1 0 ⊘ as_float (2 ^ i)) (decimal 0 0));
  scale = scale;
}

-- there are four stages, and the first is stage 0
abbrev pub is_stage : ℕ → Bool
is_stage stage = leb stage 3

-- no envelope has a stage above 3
unfoldable pub all_stages : List Envelope → Bool
all_stages [] = true
all_stages (e ∷ es) = is_stage e.stage && all_stages es

-- ---- the value

-- a start of -100 is a mark that stands for the level before; it is compared as a float
unfoldable pub previous_level : Float
previous_level = minus_decimal 100 0

-- where a stage starts: at the level before it, or at a level of its own
unfoldable pub start_of : Float → Float → Float
start_of before start = cond (eq start previous_level) before start

-- an operator's rising segment is bent, about as a logarithm
unfoldable pub bent : Float → Float
bent phase = phase ⊗ ((decimal 25 1 ⊖ phase) ⊗ decimal 666667 6)

-- the straight line from a level to another
unfoldable pub line : Float → Float → Float → Float
line phase from to = phase ⊗ (to ⊖ from) ⊕ from

-- from a level to another. The old chip's envelope jumps up when it rises: an operator's rising segment lifts both ends
-- to at least 6.7, so with both below, it is 6.7 throughout
unfoldable pub segment : Bool → Float → Float → Float → Float
segment reshape phase from to =
    cond (reshape && lt from to) (line (bent phase) (maximum jump from) (maximum jump to)) (line phase from to)

-- the value at a phase of a stage, from the levels alone
abbrev pub level_value : Bool → List Float → ℕ → Float → Float → Float
level_value reshape level stage phase start =
    segment reshape phase (start_of (level_before level stage) start) (get_or level stage nan)

-- the value at a phase of a stage
unfoldable pub value_at : Bool → Envelope → ℕ → Float → Float → Float
value_at reshape e stage phase start = level_value reshape e.level stage phase start

-- the value now
unfoldable pub current_value : Bool → Envelope → Float
current_value reshape e = value_at reshape e e.stage e.phase e.start

-- ---- the render

-- the same envelope at a phase of a stage
abbrev pub moved_to : Envelope → ℕ → Float → Float → Envelope
moved_to e stage phase start = record {
  stage = stage;
  phase = phase;
  start = start;
  increment = e.increment;
  level = e.level;
  scale = e.scale;
}

-- where it stands
abbrev pub position_of : Envelope → Position
position_of e = record { stage = e.stage; phase = e.phase; start = e.start }

-- and at a position
abbrev pub standing : Envelope → Position → Envelope
standing e q = moved_to e q.stage q.phase q.start

-- it leaves the value now for the start of a stage
abbrev pub jumped_to : Bool → Envelope → ℕ → Envelope
jumped_to reshape e stage = moved_to e stage (decimal 0 0) (current_value reshape e)

-- a gate that opens starts the first stage, and one that closes the last
unfoldable pub gated : Bool → Bool → Envelope → Envelope
gated reshape gate e =
    cond gate (cond (eqb e.stage 3) (jumped_to reshape e 0) e) (cond (eqb e.stage 3) e (jumped_to reshape e 3))

-- the phase a call further; the last stage has a scale of its own
unfoldable pub stepped_phase : Float → Float → Float → Envelope → Float
stepped_phase rate ad_scale release_scale e =
    e.phase ⊕ increment_at e e.stage ⊗ rate ⊗ cond (eqb e.stage 3) release_scale ad_scale

-- a phase that reaches 1 ends its stage: the first two make room for the next, one only, and the phase left over is
-- dropped; the others are held at 1
unfoldable pub advanced : Float → Envelope → Envelope
advanced phase e =
    cond (le (decimal 1 0) phase)
    (cond (ltb e.stage 2)
    (moved_to e (e.stage + 1) (decimal 0 0) previous_level)
    (moved_to e e.stage (decimal 1 0) previous_level))
    (moved_to e e.stage phase e.start)

-- one call: the gate, then the step, then at most one stage further
unfoldable pub rendered : Bool → Bool → Float → Float → Float → Envelope → Envelope
rendered reshape gate rate ad_scale release_scale e =
    let g = gated reshape gate e in
    advanced (stepped_phase rate ad_scale release_scale g) g
