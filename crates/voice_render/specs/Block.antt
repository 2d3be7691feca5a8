-- A sounding block of a voice, after voice.rs's render, with one rounding per written operation, in the Rust's order.
-- Definitions only.
use Rattle.std.specs.Prelude.{ℕ, ◌/◌, Bool, false, cond, not, ◌&&◌, ◌||◌, List, [], ◌∷◌, eqb, length, get_or, Float}
use Rattle.numbers.specs.F32.{◌⊕◌}
use Rattle.dx_units_inner.specs.Units.{normalized_velocity_of}
use Rattle.dx_units_step.specs.declared.Mark.{Mark}
use Rattle.operator.specs.declared.Operator.{Operator}
use Rattle.voice_note.specs.Note.{played_note}
use Rattle.voice_block.specs.declared.Operators.{Operators}
use Rattle.voice_block.specs.Calls.{no_operator, Ran, ran}
use Rattle.voice_levels.specs.declared.Levels.{Levels}
use Rattle.voice_levels.specs.Levels.{timing_for, followed, note_frequency, all_as_asked, leveled_to}
use Rattle.voice.specs.declared.Voice.{Voice}
use Rattle.voice.specs.Voice.{Moving, tunings_of, contents_of, rebuilt}
use Rattle.voice_render.specs.declared.VoiceParameters.{VoiceParameters}
use Rattle.voice_render.specs.declared.Struck.{Struck}
use Rattle.voice_render.specs.declared.Begun.{Begun}
use Rattle.voice_render.specs.declared.Rendered.{Rendered}

-- the same parameters with another note
abbrev pub with_note : VoiceParameters → Float → VoiceParameters
with_note p note = record {
  sustain = p.sustain;
  gate = p.gate;
  note = note;
  velocity = p.velocity;
  brightness = p.brightness;
  envelope_control = p.envelope_control;
  pitch_mod = p.pitch_mod;
  amp_mod = p.amp_mod;
}

-- what a block plays: the parameters it is given, with the note that the voice plays in the note's place. A voice
-- transposes where its switch is on, unless it has no patch
unfoldable pub played_by : Voice → VoiceParameters → VoiceParameters
played_by v p = with_note p (played_note (v.transposing && v.has_patch) v.patch.transpose p.note)

-- a note-on: the gate opens
unfoldable pub note_on : Voice → VoiceParameters → Bool
note_on v p = p.gate && not v.gate

-- note and velocity are taken at a note-on, and always in a sustained voice; else the stored ones count
unfoldable pub struck : Voice → VoiceParameters → Struck
struck v p =
    cond (note_on v p || p.sustain)
    (record { note = p.note; normalized_velocity = normalized_velocity_of p.velocity })
    (record { note = v.note; normalized_velocity = v.normalized_velocity })

-- what all operators have in common in a block of n samples, and the pitch envelope after it
unfoldable pub begun : List Float → List Float → Voice → VoiceParameters → ℕ → Begun
begun high low v p n =
    let t = timing_for p.sustain p.gate v.sample_rate p.envelope_control n in
    let pitch = followed t false t.envelope_rate v.pitch_envelope in
    let s = struck v p in
    record {
      scene = record {
        timing = t;
        f0 = note_frequency high low v.a0 p.note (pitch.value ⊕ p.pitch_mod);
        one_hz = v.one_hz;
        note = s.note;
        normalized_velocity = s.normalized_velocity;
        brightness = p.brightness;
        amp_mod = p.amp_mod;
      };
      pitch_envelope = pitch.envelope;
    }

-- an operator whose phase starts anew
abbrev pub restarted : Operator → Operator
restarted o = record { phase = 0; amplitude = o.amplitude }

abbrev pub restarted_at : List Operator → ℕ → Operator
restarted_at os i = restarted (get_or os i no_operator)

unfoldable pub all_restarted : List Operator → List Operator
all_restarted os =
    restarted_at os 0 ∷ restarted_at os 1 ∷ restarted_at os 2 ∷ restarted_at os 3 ∷ restarted_at os 4
    ∷ restarted_at os 5 ∷ []

-- the operators that enter a block: phases start anew at a note-on whose patch asks for it
unfoldable pub entering : Voice → VoiceParameters → List Operator
entering v p = cond (note_on v p && not (eqb v.patch.reset_phase 0)) (all_restarted v.operator) v.operator

-- the voice after a block
unfoldable pub after : Voice → VoiceParameters → Begun → Levels → Operators → Voice
after v p b l os =
    let m : Moving =
    record {
      gate = p.gate;
      operator = os.operator;
      envelopes = l.operator_envelope;
      pitch = b.pitch_envelope;
      velocity = b.scene.normalized_velocity;
      note = b.scene.note;
      feedback = os.feedback_state;
    }
    in
    rebuilt v m (tunings_of v) (contents_of v) v.dirty v.transposing

-- the voice, a mark for each operator and all four quarters after a sounding block
pub record Sounded : Type 0 where
  pub voice : Voice
  pub marks : List Mark
  pub block : List Float

-- what a sounding block gave, with the block after it
abbrev pub sounded_by : Rendered → List Float → Sounded
sounded_by r block = record { voice = r.voice; marks = r.marks; block = block }

module _ (pairs high low : List Float) (v : Voice) (p : VoiceParameters) where
  -- steps, marks and amplitudes in a block of n samples
  unfoldable pub levels_for : ℕ → Levels
  levels_for n =
      leveled_to (begun high low v p n).scene v.patch.op v.ratios v.level_headroom v.row
      v.operator_envelope v.operators

  -- the marks that it tells: no pitch of an empty block is cut off
  unfoldable pub marks_for : ℕ → List Mark
  marks_for n = cond (eqb n 0) all_as_asked (levels_for n).marks

  -- the plan's calls over the block
  unfoldable pub played : List Float → Ran
  played block =
      let l = levels_for (length block / 4) in
      let before : Operators = record { operator = entering v p; feedback_state = v.feedback_state } in
      ran pairs v.plan l.steps l.amplitudes v.patch.feedback before block

  unfoldable pub sounded : List Float → Sounded
  sounded block =
      let n = length block / 4 in
      let r = played block in
      record {
        voice = after v p (begun high low v p n) (levels_for n) r.operators;
        marks = marks_for n;
        block = r.block;
      }
