-- A voice or an LFO that 9 refuses, as a host has it that stores what a refused start hands out: until its next start
-- every call of it is answered with 9 and changes nothing. Assumes nothing.
use mathlib.Core.Path.{◌≡◌, refl, ap, ◌∙◌}
use mathlib.Core.Bool.{true, false}
use mathlib.Core.List.{List}
use Prim.Native.Nat.{ℕ}
use lib.Dec.{T}
use lib.Ieee.{Float}
use Rattle.refusals.specs.Answer.{number_told}
use Rattle.lfo_inner.specs.declared.Lfo.{Lfo}
use Rattle.lfo.specs.Answers as LfoAnswers
use Rattle.lfo.specs.Calls as lfo
use Rattle.lfo.proofs.Calls as LfoLaws
use Rattle.voice.specs.declared.Voice.{Voice}
use Rattle.voice.specs.Voice.{no_voice}
use Rattle.voice.specs.Answers.{state_fits, init_answer, set_patch_answer, take_patch_answer, patch_answer}
use Rattle.voice.specs.Answers.{set_transposing_answer}
use Rattle.voice.proofs.Kept.{refused_init, no_voice_refused}
use Rattle.voice_render.specs.Answers.{setup_answer, render_answer}
use Rattle.theorem_runs.specs.VoiceCalls as voice
use Rattle.theorem_runs.specs.Run.{Call, Start, OfVoice, StartLfo, OfLfo, FromVoice, FromLfo, State, step_of}
use Rattle.theorem_runs.specs.Run.{run, ending}
use Rattle.theorem_runs.specs.Good.{each, throughout, is_nine, keeps_voice, keeps_lfo, voice_nine, lfo_nine}
use Rattle.theorem_runs.proofs.Reached.{ending_has, run_passes}

-- ---- a voice

module _ (v : Voice) where
  refusal_is : (call : voice.Call)
      → (voice.number_of (voice.refusal_of call v) ≡ 9) × (voice.voice_after v (voice.refusal_of call v) ≡ v)
  unfolding voice.refusal_of
  refusal_is (voice.SetPatch p table) = (refl, refl)
  refusal_is voice.TakePatch = (refl, refl)
  refusal_is voice.GetPatch = (refl, refl)
  refusal_is (voice.SetTransposing on) = (refl, refl)
  refusal_is voice.Setup = (refl, refl)
  refusal_is (voice.Render pairs high low p block) = (refl, refl)

  call_refused : state_fits v ≡ false → (call : voice.Call) → voice.answer_to call v ≡ voice.refusal_of call v
  unfolding voice.answer_to voice.refusal_of set_patch_answer take_patch_answer patch_answer set_transposing_answer
      setup_answer render_answer
  call_refused e (voice.SetPatch p table) = rw e refl
  call_refused e voice.TakePatch = rw e refl
  call_refused e voice.GetPatch = rw e refl
  call_refused e (voice.SetTransposing on) = rw e refl
  call_refused e voice.Setup = rw e refl
  call_refused e (voice.Render pairs high low p block) = rw e refl

-- a call of it: the refusal 9, with voice and buffer as they came, and the whole state as it was
pub voice_refused : (s : State) → state_fits s.voice ≡ false → (call : voice.Call)
    → step_of (OfVoice call) s ≡ record { answer = FromVoice (voice.refusal_of call s.voice); state = s }
unfolding step_of
voice_refused s e call = rw (call_refused s.voice e call, (refusal_is s.voice call).1) refl

-- any call but its start
voice_stays : (v : Voice) → state_fits v ≡ false → (s : State) → s.voice ≡ v → (call : Call) → T (keeps_voice call)
    → ((step_of call s).state.voice ≡ v) × T (voice_nine call (step_of call s))
unfolding keeps_voice voice_nine is_nine
voice_stays v e s h (Start stores operators rate) t = absurd t
voice_stays v e s h (OfVoice call) t =
    rw (voice_refused s (ap state_fits h ∙ e) call, (refusal_is s.voice call).0) (h, tt)
voice_stays v e s h (StartLfo stores rate) t = unfold step_of in (h, tt)
voice_stays v e s h (OfLfo call) t = unfold step_of in (h, tt)

-- after a refused start that is stored, until the next start
pub voice_lost : (operators : ℕ) (rate : Float) → (number_told (init_answer operators rate) ≡ 0 → ⊥)
    → (s : State) (calls : List Call) → T (each keeps_voice calls)
    → let lost = (step_of (Start true operators rate) s).state in
    ((ending calls lost).voice ≡ no_voice) × T (throughout voice_nine calls (run calls lost))
voice_lost operators rate n s calls t =
    let lost = (step_of (Start true operators rate) s).state in
    let here : lost.voice ≡ no_voice = (unfold step_of in refused_init operators rate n) in
    let stays = voice_stays no_voice no_voice_refused in (
      ending_has (λ s. s.voice ≡ no_voice) keeps_voice voice_nine stays calls lost here t,
      run_passes (λ s. s.voice ≡ no_voice) keeps_voice voice_nine stays calls lost here t,
    )

-- ---- an LFO, likewise

lfo_refusal_is : (l : Lfo) (call : lfo.Call)
    → (lfo.number_of (lfo.refusal_of call l) ≡ 9) × (lfo.lfo_after l (lfo.refusal_of call l) ≡ l)
unfolding lfo.refusal_of
lfo_refusal_is l (lfo.Set m) = (refl, refl)
lfo_refusal_is l lfo.Reset = (refl, refl)
lfo_refusal_is l (lfo.Step lut random scale) = (refl, refl)
lfo_refusal_is l (lfo.Scrub lut random sample) = (refl, refl)
lfo_refusal_is l (lfo.Value lut) = (refl, refl)
lfo_refusal_is l lfo.DelayRamp = (refl, refl)
lfo_refusal_is l lfo.PitchMod = (refl, refl)
lfo_refusal_is l lfo.AmpMod = (refl, refl)

pub lfo_refused : (s : State) → LfoAnswers.state_fits s.lfo ≡ false → (call : lfo.Call)
    → step_of (OfLfo call) s ≡ record { answer = FromLfo (lfo.refusal_of call s.lfo); state = s }
unfolding step_of
lfo_refused s e call = rw (LfoLaws.call_refused s.lfo e call, (lfo_refusal_is s.lfo call).1) refl

lfo_stays : (l : Lfo) → LfoAnswers.state_fits l ≡ false → (s : State) → s.lfo ≡ l → (call : Call) → T (keeps_lfo call)
    → ((step_of call s).state.lfo ≡ l) × T (lfo_nine call (step_of call s))
unfolding keeps_lfo lfo_nine is_nine
lfo_stays l e s h (Start stores operators rate) t = unfold step_of in (h, tt)
lfo_stays l e s h (OfVoice call) t = unfold step_of in (h, tt)
lfo_stays l e s h (StartLfo stores rate) t = absurd t
lfo_stays l e s h (OfLfo call) t =
    rw (lfo_refused s (ap LfoAnswers.state_fits h ∙ e) call, (lfo_refusal_is s.lfo call).0) (h, tt)

pub lfo_lost : (rate : Float) → (number_told (LfoAnswers.init_answer rate) ≡ 0 → ⊥)
    → (s : State) (calls : List Call) → T (each keeps_lfo calls)
    → let lost = (step_of (StartLfo true rate) s).state in
    ((ending calls lost).lfo ≡ LfoAnswers.no_lfo) × T (throughout lfo_nine calls (run calls lost))
lfo_lost rate n s calls t =
    let lost = (step_of (StartLfo true rate) s).state in
    let here : lost.lfo ≡ LfoAnswers.no_lfo = (unfold step_of in LfoLaws.refused_init rate n) in
    let stays = lfo_stays LfoAnswers.no_lfo LfoLaws.no_lfo_refused in (
      ending_has (λ s. s.lfo ≡ LfoAnswers.no_lfo) keeps_lfo lfo_nine stays calls lost here t,
      run_passes (λ s. s.lfo ≡ LfoAnswers.no_lfo) keeps_lfo lfo_nine stays calls lost here t,
    )
