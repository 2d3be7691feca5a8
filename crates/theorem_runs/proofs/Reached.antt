-- Number 9 of a run: from a state that calls have reached no call is answered with 9, and every call leaves such a
-- state, as long as no refused start is stored. Assumes nothing.
use mathlib.Core.Path.{◌≡◌, refl}
use mathlib.Core.Bool.{Bool, true, false, cond, not, ◌||◌}
use mathlib.Core.List.{List, [], ◌∷◌, ◌++◌}
use Prim.Native.Nat.{ℕ}
use borrow.Author.Tests.{eqb-true}
use lib.Dec.{T, eqb}
use lib.Ieee.{Float}
use lib.Ieee.Fits.{and_i, and_l, and_r}
use Rattle.units.specs.Tables.{lut_pitch_ratio_high, lut_pitch_ratio_low}
use Rattle.algorithms.specs.Plan.{counted}
use Rattle.refusals.specs.Answer.{number_told, state_after}
use Rattle.lfo.specs.Answers as LfoAnswers
use Rattle.lfo.specs.Calls.{Valid}
use Rattle.lfo.proofs.Calls as lfo
use Rattle.patch_limits.specs.Ranges.{sample_rate_fits}
use Rattle.voice.specs.declared.Voice.{Voice}
use Rattle.voice.specs.Answers.{state_fits, init_answer}
use Rattle.voice.proofs.Kept.{NoNine, init_fits, init_keeps, set_patch_keeps, take_patch_keeps, patch_no_nine}
use Rattle.voice.proofs.Kept.{set_transposing_keeps}
use Rattle.voice_render.proofs.Kept.{setup_keeps, render_keeps}
use Rattle.theorem_runs.specs.VoiceCalls as voice
use Rattle.theorem_runs.specs.Run.{Call, Start, OfVoice, StartLfo, OfLfo, State, Step, stored, step_of}
use Rattle.theorem_runs.specs.Run.{run, ending}
use Rattle.theorem_runs.specs.Good.{Good, fresh, each, throughout, careful, is_nine, not_nine}

-- ---- a run, from what holds of a call

-- what a state has, each call of a kind keeps, and passes a test
module _ (Has : State → Type 0) (kind : Call → Bool) (test : Call → Step → Bool)
    (keeps : (s : State) → Has s → (call : Call) → T (kind call)
    → Has (step_of call s).state × T (test call (step_of call s))) where
  pub ending_has : (calls : List Call) (s : State) → Has s → T (each kind calls) → Has (ending calls s)
  unfolding ending each
  ending_has [] s h t = h
  ending_has (call ∷ calls) s h t =
      ending_has calls (step_of call s).state (keeps s h call (and_l (kind call) (each kind calls) t)).0
      (and_r (kind call) (each kind calls) t)

  pub run_passes : (calls : List Call) (s : State) → Has s → T (each kind calls)
      → T (throughout test calls (run calls s))
  unfolding run each throughout
  run_passes [] s h t = tt
  run_passes (call ∷ calls) s h t =
      let here = keeps s h call (and_l (kind call) (each kind calls) t) in
      and_i (test call (step_of call s)) (throughout test calls (run calls (step_of call s).state)) here.1
      (run_passes calls (step_of call s).state here.0 (and_r (kind call) (each kind calls) t))

-- a run in two parts: the second starts where the first ends
pub run_joined : (first second : List Call) (s : State)
    → run (first ++ second) s ≡ run first s ++ run second (ending first s)
unfolding run ending
run_joined [] second s = refl
run_joined (call ∷ first) second s = rw (run_joined first second (step_of call s).state) refl

-- ---- a call

-- a start leaves what it hands out, or the old, unless a refusal is stored
stored_has : {A : Type 0} (Has : A → Type 0) (stores : Bool) (number : ℕ) (new old : A) → Has old
    → (number ≡ 0 → Has new) → T (not stores || eqb number 0) → Has (stored stores number new old)
stored_has Has stores number new old h f = go stores (eqb number 0) refl
  where
    go : (b c : Bool) → eqb number 0 ≡ c → T (not b || c) → Has (cond (b || c) new old)
    go true true e t = f (eqb-true number 0 e)
    go true false e t = absurd t
    go false true e t = f (eqb-true number 0 e)
    go false false e t = h

voice_keeps : (v : Voice) → T (state_fits v) → (call : voice.Call)
    → T (state_fits (voice.voice_after v (voice.answer_to call v))) × NoNine (voice.number_of (voice.answer_to call v))
unfolding voice.answer_to
voice_keeps v t (voice.SetPatch p table) = set_patch_keeps v t p table
voice_keeps v t voice.TakePatch = take_patch_keeps v t
voice_keeps v t voice.GetPatch = (t, patch_no_nine v t)
voice_keeps v t (voice.SetTransposing on) = set_transposing_keeps v t on
voice_keeps v t voice.Setup = setup_keeps v t lut_pitch_ratio_high lut_pitch_ratio_low
voice_keeps v t (voice.Render pairs high low p block) = render_keeps v t pairs high low p block

pub step_keeps : (s : State) → Good s → (call : Call) → T (careful call)
    → Good (step_of call s).state × T (not_nine call (step_of call s))
unfolding step_of careful not_nine is_nine
step_keeps s g (Start stores operators rate) t =
    let a = init_answer operators rate in
    let k = init_keeps operators rate in
    let v = stored_has (λ v. T (state_fits v)) stores (number_told a) (state_after a) s.voice g.voice k.1 t in
    (record { voice = v; lfo = g.lfo }, k.0)
step_keeps s g (OfVoice call) t =
    let k = voice_keeps s.voice g.voice call in
    (record { voice = k.0; lfo = g.lfo }, k.1)
step_keeps s g (StartLfo stores rate) t =
    let a = LfoAnswers.init_answer rate in
    let k = lfo.init_keeps rate in
    let l = stored_has Valid stores (number_told a) (state_after a) s.lfo g.lfo k.1 t in
    (record { voice = g.voice; lfo = l }, k.0)
step_keeps s g (OfLfo call) t =
    let k = lfo.call_keeps s.lfo g.lfo call in
    (record { voice = g.voice; lfo = k.0 }, k.1)

-- ---- a run

pub ending_good : (calls : List Call) (s : State) → Good s → T (each careful calls) → Good (ending calls s)
ending_good = ending_has Good careful not_nine step_keeps

pub never_9 : (calls : List Call) (s : State) → Good s → T (each careful calls)
    → T (throughout not_nine calls (run calls s))
never_9 = run_passes Good careful not_nine step_keeps

module _ (operators : ℕ) (rate lfo_rate : Float) (t : T (counted operators)) (u : T (sample_rate_fits rate))
    (w : T (sample_rate_fits lfo_rate)) where
  -- a voice and an LFO that were started with sample rates that fit
  pub fresh_good : Good (fresh operators rate lfo_rate)
  unfolding fresh
  fresh_good = record { voice = init_fits operators rate t u; lfo = lfo.init_valid lfo_rate w }

  -- from there on no run, accepted or refused, meets a 9
  pub fresh_never_9 : (calls : List Call) → T (each careful calls)
      → T (throughout not_nine calls (run calls (fresh operators rate lfo_rate)))
  fresh_never_9 calls = never_9 calls (fresh operators rate lfo_rate) fresh_good
