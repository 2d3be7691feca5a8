-- Setting an envelope from a patch's rates and levels, after envelope.rs. Definitions only.
use Rattle.std.specs.Prelude.{List, ℕ, eqb, get_or, Float}
use Rattle.envelope_stages.specs.Stages.{operator_levels, operator_increments, pitch_levels, pitch_increments}
use Rattle.envelope_inner.specs.declared.Envelope.{Envelope}

-- the same envelope with other increments and levels
abbrev pub set_to : Envelope → List Float → List Float → Envelope
set_to e increment level = record {
  stage = e.stage;
  phase = e.phase;
  start = e.start;
  increment = increment;
  level = level;
  scale = e.scale;
}

unfoldable pub operator_set : Envelope → List ℕ → List ℕ → ℕ → Envelope
operator_set e rate level global_level =
    let levels = operator_levels level global_level in
    set_to e (operator_increments rate levels (eqb (get_or level 0 0) 0) e.scale) levels

unfoldable pub pitch_set : Envelope → List ℕ → List ℕ → Envelope
pitch_set e rate level =
    let levels = pitch_levels level in
    set_to e (pitch_increments rate levels e.scale) levels
