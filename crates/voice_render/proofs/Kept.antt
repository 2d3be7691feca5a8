-- Number 9 of a setup and of a block: neither makes a voice that 9 accepts one that it refuses. Assumes nothing.
use mathlib.Core.Path.{◌≡◌, refl}
use mathlib.Core.Bool.{Bool, true, false, cond}
use mathlib.Core.List.{List}
use Prim.Native.Nat.{ℕ, zero, suc}
use lib.Dec.{T}
use lib.ListN.{length}
use lib.Ieee.{Float}
use lib.Ieee.Bits.{is_true}
use Rattle.std.specs.Prelude.{Result}
use Rattle.refusals.specs.declared.Refused.{Refused}
use Rattle.refusals.specs.Answer.{number_told}
use Rattle.patch.specs.declared.Operator.{Operator}
use Rattle.envelope_inner.specs.Envelope.{all_stages}
use Rattle.envelope_inner.specs.Set.{operator_set, pitch_set}
use Rattle.voice_setup.specs.declared.Setup.{Setup}
use Rattle.voice_setup.specs.Setup.{operator_set_up, put_at, set_up_to}
use Rattle.voice_levels.proofs.Stages.{stage_at_fits, set_keeps_stages, leveled_keeps_stages, followed_stage}
use Rattle.voice.specs.declared.Voice.{Voice}
use Rattle.voice.specs.Answers.{state_fits}
use Rattle.voice.proofs.States.{Fits, state_fits_lem}
use Rattle.voice.proofs.Kept.{NoNine, fits_state}
use Rattle.voice_render.specs.declared.Readied.{Readied}
use Rattle.voice_render.specs.declared.VoiceParameters.{VoiceParameters}
use Rattle.voice_render.specs.Setup.{with_setup, set_up}
use Rattle.voice_render.specs.Block.{played_by, begun, after, levels_for, sounded}
use Rattle.voice_render.specs.Answers.{block_fits, parameters_fit_for, readied, voice_readied, setup_answer, Answered}
use Rattle.voice_render.specs.Answers.{voice_rendered, render_answer}
use Rattle.voice_render.proofs.Alike.{answer_by}

-- what a block leaves: an accepted voice, and a number that is no 9
abbrev pub KeptBlock : Answered → Type 0
KeptBlock a = T (state_fits (voice_rendered a.answer)) × NoNine (number_told a.answer)

set_up_stages : (high low : List Float) (ops : List Operator) (k : ℕ) (s : Setup)
    → T (all_stages s.operator_envelope) → T (all_stages (set_up_to high low ops k s).operator_envelope)
unfolding set_up_to put_at operator_set_up operator_set
set_up_stages high low ops zero s t = t
set_up_stages high low ops (suc k) s t =
    let before = (set_up_to high low ops k s).operator_envelope in
    let u = set_up_stages high low ops k s t in
    set_keeps_stages before k _ u (stage_at_fits before k u)

module _ (v : Voice) (t : T (state_fits v)) where
  pub set_up_fits : (high low : List Float) → T (state_fits (set_up high low v))
  unfolding set_up with_setup pitch_set
  set_up_fits high low = go v.has_patch refl
    where
      f : Fits v
      f = state_fits_lem v t

      before : Setup
      before = record {
        operator_envelope = v.operator_envelope;
        ratios = v.ratios;
        level_headroom = v.level_headroom;
      }

      go : (b : Bool) → v.has_patch ≡ b
          → T (state_fits (cond b
          (with_setup v
          (pitch_set v.pitch_envelope v.patch.pitch_envelope.rate v.patch.pitch_envelope.level)
          (set_up_to high low v.patch.op v.operators before))
          v))
      go true e = fits_state _ (record {
        count = f.count;
        stages = set_up_stages high low v.patch.op v.operators _ f.stages;
        pitch = f.pitch;
        patched = rw e (rw e at f).patched;
      })
      go false e = t

  pub setup_keeps : (high low : List Float)
      → T (state_fits (voice_readied (setup_answer high low v))) × NoNine (number_told (setup_answer high low v))
  unfolding setup_answer
  setup_keeps high low = rw (is_true (state_fits v) t) (go v.dirty)
    where
      answer : Bool → Result Readied (Refused Voice)
      answer b = cond b (readied true (set_up high low v)) (readied false v)

      go : (b : Bool) → T (state_fits (voice_readied (answer b))) × NoNine (number_told (answer b))
      go true = (set_up_fits high low, tt)
      go false = (t, tt)

  -- a sounding block
  sounded_fits : (pairs high low : List Float) (p : VoiceParameters) (block : List Float)
      → T (state_fits (sounded pairs high low v p block).voice)
  unfolding sounded after levels_for begun
  sounded_fits pairs high low p block =
      let f = state_fits_lem v t in
      fits_state _ (record {
        count = f.count;
        stages = leveled_keeps_stages _ v.patch.op v.ratios v.level_headroom v.row
            v.operator_envelope v.operators f.stages;
        pitch = followed_stage _ false _ v.pitch_envelope f.pitch;
        patched = f.patched;
      })

  pub render_keeps : (pairs high low : List Float) (p : VoiceParameters) (block : List Float)
      → KeptBlock (render_answer pairs high low v p block)
  unfolding render_answer
  render_keeps pairs high low p block =
      rw (is_true (state_fits v) t) (go (block_fits (length block)) (parameters_fit_for v p) v.dirty)
    where
      answer : Bool → Bool → Bool → Answered
      answer = answer_by pairs high low v (played_by v p) block true

      go : (a b c : Bool) → KeptBlock (answer a b c)
      go true true true = (set_up_fits high low, tt)
      go true true false = (sounded_fits pairs high low (played_by v p) block, tt)
      go true false c = (t, tt)
      go false b c = (t, tt)
