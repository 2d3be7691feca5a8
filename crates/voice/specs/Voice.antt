-- A voice's state: fresh, with a patch and without one, after voice.rs. Definitions only.
use Rattle.std.specs.Prelude.{ℕ, Bool, true, false, List, [], ◌∷◌, Float}
use Rattle.numbers.specs.F32.{◌⊗◌, ◌⊘◌, decimal}
use Rattle.dx_units_inner.specs.declared.Ratio.{Ratio}
use Rattle.dx_units_inner.specs.declared.Ratio.TheVariants.{Note}
use Rattle.patch.specs.declared.Patch.{Patch}
use Rattle.patch.specs.Form.{zero_patch}
use Rattle.algorithms.specs.declared.Plan.{Plan}
use Rattle.algorithms.specs.Plan.{no_plan}
use Rattle.algorithms.specs.Table.{six}
use Rattle.envelope_inner.specs.declared.Envelope.{Envelope}
use Rattle.envelope_inner.specs.Envelope.{initialised}
use Rattle.operator.specs.declared.Operator.{Operator}
use Rattle.operator.specs.declared.Feedback.{Feedback}
use Rattle.operator.specs.Sample.{still}
use Rattle.voice.specs.declared.Voice.{Voice}

-- six times the same
abbrev pub six_of : {A : Type 0} → A → List A
six_of a = a ∷ a ∷ a ∷ a ∷ a ∷ a ∷ []

-- a voice that has played nothing: dirty, without a patch, its switch off, note 48, velocity 10; envelopes are scaled
-- from 44,100 Hz
unfoldable pub voice_with : ℕ → Float → Float → Float → Voice
voice_with operators sample_rate one_hz a0 =
    let e = initialised (decimal 44100 0 ⊗ one_hz) in
    record {
      operators = operators;
      sample_rate = sample_rate;
      one_hz = one_hz;
      a0 = a0;
      gate = false;
      operator = six_of still;
      operator_envelope = six_of e;
      pitch_envelope = e;
      normalized_velocity = decimal 10 0;
      note = decimal 48 0;
      ratios = six_of (Note (decimal 0 0));
      level_headroom = six_of (decimal 0 0);
      feedback_state = record { previous_0 = decimal 0 0; previous_1 = decimal 0 0 };
      has_patch = false;
      patch = zero_patch;
      row = six [];
      plan = no_plan;
      dirty = true;
      transposing = false;
    }

-- a fresh voice: 1 Hz and the A of 55 Hz in turns a sample
unfoldable pub fresh_voice : ℕ → Float → Voice
fresh_voice operators sample_rate =
    voice_with operators sample_rate (decimal 1 0 ⊘ sample_rate) (decimal 55 0 ⊘ sample_rate)

-- what a refused start hands back: a voice of no operators
unfoldable pub no_voice : Voice
no_voice = voice_with 0 (decimal 0 0) (decimal 0 0) (decimal 0 0)

-- ---- a voice with other parts: what every change of a voice is said by

-- what a sounding block moves
pub record Moving : Type 0 where
  pub gate : Bool
  pub operator : List Operator
  pub envelopes : List Envelope
  pub pitch : Envelope
  pub velocity : Float
  pub note : Float
  pub feedback : Feedback

-- what is set up of a patch besides its envelopes
pub record Tunings : Type 0 where
  pub ratios : List Ratio
  pub headroom : List Float

-- a patch, its row and its plan, or none
pub record Contents : Type 0 where
  pub has : Bool
  pub patch : Patch
  pub row : List ℕ
  pub plan : Plan

abbrev pub moving_of : Voice → Moving
moving_of v = record {
  gate = v.gate;
  operator = v.operator;
  envelopes = v.operator_envelope;
  pitch = v.pitch_envelope;
  velocity = v.normalized_velocity;
  note = v.note;
  feedback = v.feedback_state;
}

abbrev pub tunings_of : Voice → Tunings
tunings_of v = record { ratios = v.ratios; headroom = v.level_headroom }

abbrev pub contents_of : Voice → Contents
contents_of v = record { has = v.has_patch; patch = v.patch; row = v.row; plan = v.plan }

-- the same voice with these parts, dirty or clean, its switch on or off
abbrev pub rebuilt : Voice → Moving → Tunings → Contents → Bool → Bool → Voice
rebuilt v m t c is_dirty on = record {
  operators = v.operators;
  sample_rate = v.sample_rate;
  one_hz = v.one_hz;
  a0 = v.a0;
  gate = m.gate;
  operator = m.operator;
  operator_envelope = m.envelopes;
  pitch_envelope = m.pitch;
  normalized_velocity = m.velocity;
  note = m.note;
  ratios = t.ratios;
  level_headroom = t.headroom;
  feedback_state = m.feedback;
  has_patch = c.has;
  patch = c.patch;
  row = c.row;
  plan = c.plan;
  dirty = is_dirty;
  transposing = on;
}

-- the same voice, dirty, with another patch, row and plan or with none
unfoldable pub with_patch : Voice → Bool → Patch → List ℕ → Plan → Voice
with_patch v has p row plan =
    rebuilt v (moving_of v) (tunings_of v) (record { has = has; patch = p; row = row; plan = plan }) true
    v.transposing

-- without a patch: the stored patch, row and plan are zero
unfoldable pub without_patch : Voice → Voice
without_patch v = with_patch v false zero_patch (six []) no_plan

-- the same voice, dirty, with its switch on or off
unfoldable pub with_switch : Voice → Bool → Voice
with_switch v on = rebuilt v (moving_of v) (tunings_of v) (contents_of v) true on
