-- The numbers of a sounding block, after voice.rs, with one rounding per written operation, in the Rust's order.
-- Definitions only.
use Rattle.std.specs.Prelude.{ℕ, zero, suc, Bool, true, cond, List, pos, get_or, set, replicate, Float}
use Rattle.std.specs.Float.{nan}
use Rattle.std.specs.Float.Ieee.{neg}
use Rattle.numbers.specs.F32.{◌⊕◌, ◌⊖◌, ◌⊗◌, decimal, minus_decimal, as_float}
use Rattle.numbers.specs.Extremes.{minimum, magnitude}
use Rattle.units.specs.Ratio.{ratio_of}
use Rattle.dx_units_power.specs.Pow.{pow2_fast}
use Rattle.dx_units_step.specs.declared.Mark.{Mark}
use Rattle.dx_units_step.specs.declared.Mark.TheVariants.{AsAsked}
use Rattle.dx_units_step.specs.declared.Stepped.{Stepped}
use Rattle.dx_units_step.specs.Step.{step_for, mark_for, stepped_for}
use Rattle.dx_units_inner.specs.Units.{rate_scaling_of, keyboard_scaling_of, amp_mod_sensitivity_of}
use Rattle.dx_units_inner.specs.declared.Ratio.{Ratio}
use Rattle.dx_units_inner.specs.declared.Ratio.TheVariants.{Note, Hertz}
use Rattle.envelope_inner.specs.declared.Envelope.{Envelope}
use Rattle.envelope_inner.specs.Envelope.{standing, rendered, current_value}
use Rattle.envelope_inner.specs.Scrub.{scrubbed}
use Rattle.patch.specs.declared.Operator.{Operator}
use Rattle.patch.specs.Form.{operator_at}
use Rattle.algorithms.specs.Opcode.{modulating}
use Rattle.voice_setup.specs.Setup.{envelope_at}
use Rattle.voice_levels.specs.declared.Timing.{Timing}
use Rattle.voice_levels.specs.declared.Followed.{Followed}
use Rattle.voice_levels.specs.declared.Placed.{Placed}
use Rattle.voice_levels.specs.declared.Scene.{Scene}
use Rattle.voice_levels.specs.declared.Raised.{Raised}
use Rattle.voice_levels.specs.declared.Levels.{Levels}

-- ---- envelopes

-- how envelopes run in a block of so many samples: the envelope control sets two scales, and the sample that a
-- sustained voice is scrubbed to
unfoldable pub timing_for : Bool → Bool → Float → Float → ℕ → Timing
timing_for sustain gate sample_rate control samples = record {
  sustain = sustain;
  gate = gate;
  envelope_rate = as_float samples;
  ad_scale = pow2_fast ((decimal 5 1 ⊖ control) ⊗ decimal 8 0) (pos 1);
  release_scale = pow2_fast (neg (magnitude (control ⊖ decimal 3 1)) ⊗ decimal 8 0) (pos 1);
  gate_duration = decimal 15 1 ⊗ sample_rate;
  envelope_sample = decimal 15 1 ⊗ sample_rate ⊗ control;
}

-- an envelope's block: sustained, it is scrubbed and stays where it is; else it goes on by a rate
unfoldable pub followed : Timing → Bool → Float → Envelope → Followed
followed t reshape rate e =
    let r = rendered reshape t.gate rate t.ad_scale t.release_scale e in
    cond t.sustain
    (record { envelope = e; value = scrubbed 1 reshape e t.envelope_sample t.gate_duration })
    (record { envelope = r; value = current_value reshape r })

-- an envelope taken to where it stands then
abbrev pub taken : Envelope → Placed → Followed
taken e p = record { envelope = standing e p.position; value = p.value }

-- ---- frequencies

-- the note's frequency in turns a sample, with the pitch modulation in octaves; `high` and `low` are the ratio's tables
unfoldable pub note_frequency : List Float → List Float → Float → Float → Float → Float
note_frequency high low a0 note pitch_mod =
    a0 ⊗ decimal 25 2 ⊗ ratio_of high low (note ⊖ decimal 9 0 ⊕ pitch_mod ⊗ decimal 12 0)

-- an operator's frequency in turns a sample: its ratio to the note's, or to 1 Hz
unfoldable pub frequency_by : Float → Float → Ratio → Float
frequency_by f0 one_hz (Note r) = r ⊗ f0
frequency_by f0 one_hz (Hertz r) = r ⊗ one_hz

abbrev pub frequency_of : Scene → Ratio → Float
frequency_of g r = frequency_by g.f0 g.one_hz r

-- ---- levels

-- what brightness adds to a modulator's level
unfoldable pub brightness_of : Float → ℕ → Float
brightness_of brightness opcode = cond (modulating opcode) ((brightness ⊖ decimal 5 1) ⊗ decimal 32 0) (decimal 0 0)

-- what the keyboard, the velocity and the brightness add to an operator's level: an eighth of their sum, which is held
-- at the headroom
unfoldable pub scaling_of : Scene → Operator → Float → ℕ → Float
scaling_of g o headroom opcode =
    let k = o.keyboard_scaling in
    let keyboard =
    keyboard_scaling_of g.note k.left_depth k.right_depth k.left_curve k.right_curve
    k.break_point
    in
    let velocity = g.normalized_velocity ⊗ as_float o.velocity_sensitivity in
    decimal 125 3 ⊗ minimum (keyboard ⊕ velocity ⊕ brightness_of g.brightness opcode) headroom

-- what the amplitude modulation leaves of a level
abbrev pub level_mod_of : Float → Float
level_mod_of log_level_mod = decimal 1 0 ⊖ pow2_fast (decimal 64 1 ⊗ log_level_mod) (pos 2)

-- the amplitude of a level, with the amplitude modulation by an operator's sensitivity
unfoldable pub amplitude_of : Float → ℕ → Float → Float
amplitude_of amp_mod sensitivity level =
    let log_level_mod = amp_mod_sensitivity_of sensitivity ⊗ amp_mod ⊖ decimal 1 0 in
    pow2_fast (minus_decimal 14 0 ⊕ level ⊗ level_mod_of log_level_mod) (pos 2)

-- ---- operators

-- what a block makes of one operator
pub record Leveled : Type 0 where
  pub envelope : Envelope
  pub step : ℕ
  pub mark : Mark
  pub amplitude : Float

unfoldable pub leveled : Scene → Operator → Ratio → Float → ℕ → Envelope → Leveled
leveled g o ratio headroom opcode e =
    let rate = g.timing.envelope_rate ⊗ rate_scaling_of g.note o.rate_scaling in
    let f = followed g.timing true rate e in
    record {
      envelope = f.envelope;
      step = step_for (frequency_of g ratio);
      mark = mark_for (frequency_of g ratio);
      amplitude = amplitude_of g.amp_mod o.amp_mod_sensitivity (f.value ⊕ scaling_of g o headroom opcode);
    }

-- the marks of six operators whose pitches are all as asked
unfoldable pub all_as_asked : List Mark
all_as_asked = replicate 6 AsAsked

-- operator i put in its place
unfoldable pub put_at : ℕ → Leveled → Levels → Levels
put_at i one l = record {
  operator_envelope = set l.operator_envelope i one.envelope;
  steps = set l.steps i one.step;
  marks = set l.marks i one.mark;
  amplitudes = set l.amplitudes i one.amplitude;
}

-- what stands past the last ratio: nothing asks for it
abbrev pub no_ratio : Ratio
no_ratio = Note nan

-- no operator yet: envelopes as they are, steps and amplitudes 0, pitches as asked
abbrev pub unleveled : List Envelope → Levels
unleveled es = record {
  operator_envelope = es;
  steps = replicate 6 0;
  marks = all_as_asked;
  amplitudes = replicate 6 (decimal 0 0);
}

-- the first operators, in order
module _
    (g : Scene) (ops : List Operator) (ratios : List Ratio) (headrooms : List Float) (row : List ℕ) (es : List Envelope)
  where
    unfoldable pub leveled_to : ℕ → Levels
    leveled_to zero = unleveled es
    leveled_to (suc k) =
        let one =
        leveled g (operator_at ops k) (get_or ratios k no_ratio) (get_or headrooms k nan) (get_or row k 0)
        (envelope_at es k)
        in
        put_at k one (leveled_to k)

-- ---- the same in two steps

-- first an operator's envelope and, as its value, its level
unfoldable pub raised : Scene → Operator → Float → ℕ → Envelope → Followed
raised g o headroom opcode e =
    let rate = g.timing.envelope_rate ⊗ rate_scaling_of g.note o.rate_scaling in
    let f = followed g.timing true rate e in
    record { envelope = f.envelope; value = f.value ⊕ scaling_of g o headroom opcode }

-- an envelope taken to where it stands then
abbrev pub raised_by : Envelope → Raised → Followed
raised_by e r = record { envelope = standing e r.position; value = r.level }

-- with its step and its mark, and the level in the amplitude's place
abbrev pub stepped_with : Stepped → Followed → Leveled
stepped_with s f = record { envelope = f.envelope; step = s.step; mark = s.mark; amplitude = f.value }

module _
    (g : Scene) (ops : List Operator) (ratios : List Ratio) (headrooms : List Float) (row : List ℕ) (es : List Envelope)
  where
    unfoldable pub raised_to : ℕ → Levels
    raised_to zero = unleveled es
    raised_to (suc k) =
        let one =
        raised g (operator_at ops k) (get_or headrooms k nan) (get_or row k 0) (envelope_at es k)
        in
        put_at k (stepped_with (stepped_for (frequency_of g (get_or ratios k no_ratio))) one) (raised_to k)

-- then the amplitudes of the first levels
module _ (g : Scene) (ops : List Operator) where
  unfoldable pub amplitudes_to : List Float → ℕ → List Float
  amplitudes_to levels zero = levels
  amplitudes_to levels (suc k) =
      let s = amplitudes_to levels k in
      set s k (amplitude_of g.amp_mod (operator_at ops k).amp_mod_sensitivity (get_or s k nan))
