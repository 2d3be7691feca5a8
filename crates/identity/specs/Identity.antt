-- A patch's identifier: the hash of what three notes of it sound like. Each call's refusal is the answer where there is
-- one. Definitions only.
use Rattle.std.specs.Prelude.{ℕ, zero, suc, Bool, true, false, List, replicate, take, Float, Result, Ok, Err}
use Rattle.numbers.specs.F32.{decimal}
use Rattle.refusals.specs.declared.Refusal.{Refusal}
use Rattle.refusals.specs.declared.Refused.{Refused}
use Rattle.sine.specs.Table.{lut_sine}
use Rattle.sine.specs.Pairs.{sine_pairs}
use Rattle.units.specs.Tables.{lut_pitch_ratio_high, lut_pitch_ratio_low}
use Rattle.patch.specs.declared.Patch.{Patch}
use Rattle.algorithms_opcodes.specs.Opcodes.{six_operators}
use Rattle.lfo.specs.Answers as lfo
use Rattle.voice.specs.declared.Voice.{Voice}
use Rattle.voice.specs.Answers as voice
use Rattle.voice_render.specs.declared.VoiceParameters.{VoiceParameters}
use Rattle.voice_render.specs.Answers.{render_answer}
use Rattle.identity.specs.declared.Ready.{Ready}
use Rattle.identity.specs.declared.Playing.{Playing}
use Rattle.identity.specs.declared.Tables.{Tables}
use Rattle.identity.specs.Hash.{hash_basis, hashed_samples}

-- what follows an answer, or its refusal
abbrev pub after : {A T : Type 0} → Result A Refusal → (A → Result T Refusal) → Result T Refusal
after (Ok x) f = f x
after (Err e) f = Err e

-- the same where a refusal hands back a state
abbrev pub after_state : {A S T : Type 0} → Result A (Refused S) → (A → Result T Refusal) → Result T Refusal
after_state (Ok x) f = f x
after_state (Err e) f = Err e.refusal

-- a fresh voice of six operators with the patch and a fresh LFO set to its modulations and reset, both at 48,000 Hz
unfoldable pub readied : Patch → Result Ready Refusal
readied p =
    after_state (voice.init_answer 6 (decimal 48000 0)) (λ made.
    after_state (voice.set_patch_answer made p six_operators) (λ v.
    after_state (lfo.init_answer (decimal 48000 0)) (λ started.
    after_state (lfo.set_answer started p.modulations) (λ set.
    after_state (lfo.reset_answer set) (λ l. Ok (record { voice = v; lfo = l }))))))

-- velocity 0.8, brightness and envelope control 0.5, no sustain
unfoldable pub parameters_of : Float → Bool → Float → Float → VoiceParameters
parameters_of note gate pitch_mod amp_mod = record {
  sustain = false;
  gate = gate;
  note = note;
  velocity = decimal 8 1;
  brightness = decimal 5 1;
  envelope_control = decimal 5 1;
  pitch_mod = pitch_mod;
  amp_mod = amp_mod;
}

-- what a block of 64 samples begins with: the output and the three scratch quarters, cleared
abbrev pub silence : List Float
silence = replicate 256 (decimal 0 0)

-- a voice looks the sine up in pairs, the LFO in the table itself
abbrev pub built_in : Tables
built_in = record { lut = lut_sine; pairs = sine_pairs; high = lut_pitch_ratio_high; low = lut_pitch_ratio_low }

module _ (tables : Tables) where
  -- a blank block sets the voice up: gate off, no modulation, the LFO does not step
  unfoldable pub set_up_for : Voice → Float → Result Voice Refusal
  set_up_for v note =
      let p = parameters_of note false (decimal 0 0) (decimal 0 0) in
      after_state (render_answer tables.pairs tables.high tables.low v p silence).answer (λ r. Ok r.voice)

  -- the LFO steps by 64, its modulations become the block's, and the block's 64 samples are hashed
  unfoldable pub block_played : Float → Bool → Playing → Result Playing Refusal
  block_played note gate s =
      after_state (lfo.step_answer tables.lut s.motion (decimal 64 0)) (λ m.
      after (lfo.pitch_mod_answer m.lfo) (λ pitch.
      after (lfo.amp_mod_answer m.lfo) (λ amp.
      let p = parameters_of note gate pitch amp in
      let a = render_answer tables.pairs tables.high tables.low s.voice p silence in
      after_state a.answer (λ r.
      Ok (record { voice = r.voice; motion = m; hash = hashed_samples s.hash (take 64 a.block) })))))

  -- so many blocks, one after the other
  unfoldable pub blocks_played : Float → Bool → ℕ → Playing → Result Playing Refusal
  blocks_played note gate zero s = Ok s
  blocks_played note gate (suc n) s = after (block_played note gate s) (blocks_played note gate n)

  -- a voice set up, then 128 blocks with the gate on and 64 with it off; the generator's number begins at 21 (hex)
  unfoldable pub note_played : Ready → Float → ℕ → Result ℕ Refusal
  note_played r note hash =
      after (set_up_for r.voice note) (λ v.
      let s : Playing = record { voice = v; motion = record { lfo = r.lfo; state = 0x21 }; hash = hash } in
      after (blocks_played note true 128 s) (λ held.
      after (blocks_played note false 64 held) (λ released. Ok released.hash)))

  -- the notes 36, 60 and 84, each from the beginning, in one hash
  unfoldable pub notes_played : Ready → Result ℕ Refusal
  notes_played r =
      after (note_played r (decimal 36 0) hash_basis) (λ one.
      after (note_played r (decimal 60 0) one) (λ two. note_played r (decimal 84 0) two))

unfoldable pub identity_of : Patch → Result ℕ Refusal
identity_of p = after (readied p) (notes_played built_in)
