-- The switch of a voice: neither a setup nor a block changes it, and where a voice does not transpose, a block plays
-- the note that it is given and 7 asks nothing more. Assumes nothing.
use mathlib.Core.Path.{◌≡◌, refl}
use mathlib.Core.Bool.{Bool, true, false, cond, ◌&&◌, and-true}
use mathlib.Core.List.{List}
use lib.ListN.{length}
use lib.Ieee.{Float}
use Rattle.numbers.specs.F32.{decimal, minus_decimal}
use Rattle.patch_limits.specs.Ranges.{between, note_fits, unit_fits}
use Rattle.voice_note.specs.Note.{played_note}
use Rattle.voice_setup.specs.declared.Setup.{Setup}
use Rattle.envelope_inner.specs.declared.Envelope.{Envelope}
use Rattle.voice.specs.declared.Voice.{Voice}
use Rattle.voice.specs.Answers.{state_fits}
use Rattle.voice_render.specs.declared.VoiceParameters.{VoiceParameters}
use Rattle.voice_render.specs.Setup.{with_setup, set_up}
use Rattle.voice_render.specs.Block.{played_by, after, sounded}
use Rattle.refusals.specs.declared.Refusal.TheVariants.{ForeignState}
use Rattle.refusals.specs.Answer.{refused}
use Rattle.voice_render.specs.Answers.{block_fits, parameters_fit, parameters_fit_for, readied, voice_readied}
use Rattle.voice_render.specs.Answers.{setup_answer, voice_rendered, render_answer}
use Rattle.voice_render.proofs.Alike.{answer_by}

-- ---- a voice that does not transpose

-- a test that stands first is not asked twice
first_again : (n a b c d e : Bool) → (n && a && b && c && d && e && n) ≡ (n && a && b && c && d && e)
first_again true a b c d e = and-true _
first_again false a b c d e = refl

module _ (v : Voice) (p : VoiceParameters) (off : (v.transposing && v.has_patch) ≡ false) where
  pub as_given : played_by v p ≡ p
  unfolding played_by played_note
  as_given = rw off refl

  pub fits_as_given : parameters_fit_for v p ≡ parameters_fit p
  unfolding parameters_fit_for parameters_fit
  fits_as_given =
      rw as_given (first_again (note_fits p.note) (unit_fits p.velocity) (unit_fits p.brightness)
      (unit_fits p.envelope_control) (between (minus_decimal 4 0) (decimal 4 0) p.pitch_mod)
      (unit_fits p.amp_mod))

-- ---- the switch stays

module _ (pairs high low : List Float) (v : Voice) where
  pub set_up_switch : (set_up high low v).transposing ≡ v.transposing
  unfolding set_up with_setup
  set_up_switch = go _ _ v.has_patch
    where
      go : (e : Envelope) (s : Setup) (b : Bool) → (cond b (with_setup v e s) v).transposing ≡ v.transposing
      go e s true = refl
      go e s false = refl

  pub setup_switch : (voice_readied (setup_answer high low v)).transposing ≡ v.transposing
  unfolding setup_answer
  setup_switch = go (state_fits v) v.dirty
    where
      go : (b c : Bool)
          → (voice_readied (cond b (cond c (readied true (set_up high low v)) (readied false v))
          (refused ForeignState v))).transposing ≡ v.transposing
      go true true = set_up_switch
      go true false = refl
      go false c = refl

  pub render_switch : (p : VoiceParameters) (block : List Float)
      → (voice_rendered (render_answer pairs high low v p block).answer).transposing ≡ v.transposing
  unfolding render_answer sounded after
  render_switch p block = go (state_fits v) (block_fits (length block)) (parameters_fit_for v p) v.dirty
    where
      go : (a b c d : Bool)
          → (voice_rendered (answer_by pairs high low v (played_by v p) block a b c d).answer).transposing
          ≡ v.transposing
      go true true true true = set_up_switch
      go true true true false = refl
      go true true false d = refl
      go true false c d = refl
      go false b c d = refl
