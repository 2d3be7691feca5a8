-- A voice set up, which a blank block does, after voice.rs. Definitions only.
use Rattle.std.specs.Prelude.{false, cond, List, Float}
use Rattle.envelope_inner.specs.declared.Envelope.{Envelope}
use Rattle.envelope_inner.specs.Set.{pitch_set}
use Rattle.voice_setup.specs.declared.Setup.{Setup}
use Rattle.voice_setup.specs.Setup.{set_up_to}
use Rattle.voice.specs.declared.Voice.{Voice}
use Rattle.voice.specs.Voice.{Moving, contents_of, rebuilt}

-- the same voice, clean, with what its patch sets up
unfoldable pub with_setup : Voice → Envelope → Setup → Voice
with_setup v pitch s =
    let m : Moving =
    record {
      gate = v.gate;
      operator = v.operator;
      envelopes = s.operator_envelope;
      pitch = pitch;
      velocity = v.normalized_velocity;
      note = v.note;
      feedback = v.feedback_state;
    }
    in
    rebuilt v m (record { ratios = s.ratios; headroom = s.level_headroom }) (contents_of v) false v.transposing

-- a dirty voice with a patch is set up; one without stays as it is
unfoldable pub set_up : List Float → List Float → Voice → Voice
set_up high low v =
    let p = v.patch in
    let before : Setup =
    record {
      operator_envelope = v.operator_envelope;
      ratios = v.ratios;
      level_headroom = v.level_headroom;
    }
    in
    let pitch = pitch_set v.pitch_envelope p.pitch_envelope.rate p.pitch_envelope.level in
    cond v.has_patch
    (with_setup v pitch (set_up_to high low p.op v.operators before))
    v
