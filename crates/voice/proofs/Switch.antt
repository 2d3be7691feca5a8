-- The switch of a voice: off where it is made, kept when a patch is set or taken out, and after its entry as it was
-- set, in a dirty voice. Assumes nothing.
use mathlib.Core.Path.{◌≡◌, refl}
use mathlib.Core.Bool.{Bool, true, false, cond}
use mathlib.Core.List.{List}
use Prim.Native.Nat.{ℕ}
use native.Mathlib.Omega.{arith}
use lib.Ieee.{Float}
use Rattle.std.specs.Prelude.{Result, Ok, Err}
use Rattle.refusals.specs.declared.Refusal.{Refusal}
use Rattle.refusals.specs.declared.Refusal.TheVariants.{WrongTable, SampleRate, ForeignState}
use Rattle.refusals.specs.declared.Refused.{Refused}
use Rattle.refusals.specs.Answer.{refused, state_after}
use Rattle.patch.specs.declared.Patch.{Patch}
use Rattle.patch_limits.specs.Ranges.{sample_rate_fits}
use Rattle.algorithms.specs.declared.Compiled.{Compiled}
use Rattle.algorithms.specs.Plan.{counted}
use Rattle.voice.specs.declared.Voice.{Voice}
use Rattle.voice.specs.Voice.{voice_with, fresh_voice, no_voice, with_patch, without_patch, with_switch}
use Rattle.voice.specs.Answers.{state_fits, init_answer, row_compiled, loaded, set_patch_answer}
use Rattle.voice.specs.Answers.{take_patch_answer, set_transposing_answer}

pub init_off : (operators : ℕ) (rate : Float) → (state_after (init_answer operators rate)).transposing ≡ false
unfolding init_answer fresh_voice no_voice voice_with
init_off operators rate = go (counted operators) (sample_rate_fits rate)
  where
    start : Bool → Bool → Result Voice (Refused Voice)
    start b c =
        cond b (cond c (Ok (fresh_voice operators rate)) (refused SampleRate no_voice)) (refused WrongTable no_voice)

    go : (b c : Bool) → (state_after (start b c)).transposing ≡ false
    go true true = refl
    go true false = refl
    go false c = refl

module _ (v : Voice) where
  pub set_patch_switch : (p : Patch) (table : List ℕ)
      → (state_after (set_patch_answer v p table)).transposing ≡ v.transposing
  unfolding set_patch_answer with_patch
  set_patch_switch p table = go (state_fits v) (row_compiled v.operators p table)
    where
      go : (a : Bool) (c : Result Compiled Refusal)
          → (state_after (cond a (loaded v p c) (refused ForeignState v))).transposing ≡ v.transposing
      go true (Ok c) = refl
      go true (Err refusal) = first_of (cc, grind arith)
      go false c = refl

  pub take_patch_switch : (state_after (take_patch_answer v)).transposing ≡ v.transposing
  unfolding take_patch_answer without_patch with_patch
  take_patch_switch = go (state_fits v)
    where
      go : (b : Bool)
          → (state_after (cond b (Ok (without_patch v)) (refused ForeignState v))).transposing ≡ v.transposing
      go true = refl
      go false = refl

  -- after its entry, also where the switch stays as it was
  pub set_transposing_there : (on : Bool) → state_fits v ≡ true
      → ((state_after (set_transposing_answer v on)).transposing ≡ on)
      × ((state_after (set_transposing_answer v on)).dirty ≡ true)
  unfolding set_transposing_answer with_switch
  set_transposing_there on e = rw e (refl, refl)
