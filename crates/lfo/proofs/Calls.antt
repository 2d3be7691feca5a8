-- A fresh LFO is valid, every call leaves a valid LFO valid, accepted or refused, and none of its answers is a 9; an
-- LFO that 9 refuses, as a refused start hands one out, gets no other answer. Assumes nothing.
use mathlib.Core.Path.{◌≡◌, refl, sym, subst}
use mathlib.Core.Bool.{Bool, true, false, not, cond}
use mathlib.Core.List.{List}
use Prim.Native.Nat.{ℕ}
use native.Mathlib.Omega.{arith}
use lib.Dec.{T, eqb}
use lib.Ieee.{Float, le, lt, fits}
use lib.Ieee.Bits.{is_true}
use Rattle.numbers.specs.F32.{◌⊘◌, decimal}
use Rattle.patch.specs.declared.ModulationParameters.{ModulationParameters}
use Rattle.patch.specs.Layout.{lfo_sensitivity}
use Rattle.patch.specs.Packed.{modulations_fit}
use Rattle.lfo_inner.specs.declared.Lfo.{Lfo}
use Rattle.lfo_inner.specs.declared.Motion.{Motion}
use Rattle.lfo_inner.specs.Lfo.{fresh_lfo, adjusted, moved_to, valued, restarted, stepped, scrubbed, settled}
use Rattle.patch_limits.specs.Ranges.{sample_rate_fits}
use Rattle.std.specs.Prelude.{Result, Ok}
use Rattle.refusals.specs.declared.Refusal.TheVariants.{SampleRate, Field, Parameter}
use Rattle.refusals.specs.declared.Refused.{Refused}
use Rattle.refusals.specs.Answer.{refused, number_given, number_told, state_after}
use Rattle.lfo.specs.Answers.{from_zero, state_fits, step_fits, scrub_fits, no_lfo}
use Rattle.lfo.specs.Answers.{init_answer, set_answer, reset_answer, step_answer, scrub_answer}
use Rattle.lfo.specs.Answers.{read_answer, value_answer, delay_ramp_answer, pitch_mod_answer, amp_mod_answer}
use Rattle.lfo.specs.Calls.{Call, Set, Reset, Step, Scrub, Value, DelayRamp, PitchMod, AmpMod}
use Rattle.lfo.specs.Calls.{number_of, lfo_after, beside, answer_to, refusal_of, Valid}
use Rattle.lfo.proofs.Fields.{rate_fits_lem}
use Rattle.lfo.proofs.Accepted.{step_leaves_accepted, scrub_leaves_accepted, reset_leaves_accepted, set_leaves_accepted}
use Rattle.lfo.proofs.Accepted.{step_phase_fits, scrub_phase_fits, reset_phase_fits, frequency_product, init_one_hz}

-- ---- each entry

pub init_valid : (rate : Float) → T (sample_rate_fits rate) → Valid (state_after (init_answer rate))
unfolding init_answer fresh_lfo state_fits from_zero decimal le lt fits
init_valid rate t =
    rw (is_true (sample_rate_fits rate) t) (record { accepted = tt; phase_fits = tt; rate_fits = init_one_hz rate t })

-- what an answer leaves: a valid LFO, and a number that is no 9
abbrev pub Kept : Lfo → ℕ → Type 0
Kept lfo number = Valid lfo × T (not (eqb number 9))

-- a start that is not refused leaves such an LFO
pub init_keeps : (rate : Float)
    → T (not (eqb (number_told (init_answer rate)) 9)) × ((number_told (init_answer rate)) ≡ 0 → Valid (state_after (init_answer rate)))
unfolding init_answer
init_keeps rate = go (sample_rate_fits rate) refl
  where
    go : (b : Bool) → sample_rate_fits rate ≡ b
        → T (not (eqb (number_told (init_answer rate)) 9)) × ((number_told (init_answer rate)) ≡ 0 → Valid (state_after (init_answer rate)))
    go true e = (rw e tt, λ z. init_valid rate (subst T (sym e) tt))
    go false e = (rw e tt, λ z. absurd (let y = rw e at z in omega arith))

module _ (lfo : Lfo) (s : Valid lfo) where
  adjusted_valid : (m : ModulationParameters) → modulations_fit m lfo_sensitivity ≡ true → Valid (adjusted lfo m)
  unfolding adjusted
  adjusted_valid m e = record {
    accepted = subst T (sym (set_leaves_accepted lfo s.accepted m))
        (frequency_product m.rate lfo.one_hz (rate_fits_lem m lfo_sensitivity e) s.rate_fits);
    phase_fits = s.phase_fits;
    rate_fits = s.rate_fits;
  }

  set_keeps : (m : ModulationParameters) → Kept (state_after (set_answer lfo m)) (number_told (set_answer lfo m))
  unfolding set_answer
  set_keeps m = rw (is_true (state_fits lfo) s.accepted) (go (modulations_fit m lfo_sensitivity) refl)
    where
      go : (b : Bool) → modulations_fit m lfo_sensitivity ≡ b
          → let answer = cond b (Ok (adjusted lfo m)) (refused Field lfo) in
          Kept (state_after answer) (number_told answer)
      go true e = (adjusted_valid m e, tt)
      go false e = (s, tt)

  restarted_valid : Valid (restarted lfo)
  unfolding restarted moved_to
  restarted_valid = record {
    accepted = reset_leaves_accepted lfo s.accepted;
    phase_fits = reset_phase_fits lfo s.phase_fits;
    rate_fits = s.rate_fits;
  }

  reset_keeps : Kept (state_after (reset_answer lfo)) (number_told (reset_answer lfo))
  unfolding reset_answer
  reset_keeps = rw (is_true (state_fits lfo) s.accepted) (restarted_valid, tt)

  read_number_lem : (value : Float) → T (not (eqb (number_given (read_answer lfo value)) 9))
  read_number_lem value = rw (is_true (state_fits lfo) s.accepted) tt

  -- a motion that leaves a valid LFO, with its value stored, or the refusal 7
  moved_keeps : (lut : List Float) (state : ℕ) (m : Motion) (b : Bool) → (T b → Valid m.lfo)
      → let answer = cond b (Ok (settled lut m)) (refused Parameter (beside lfo state)) in
      Kept (state_after answer).lfo (number_told answer)
  unfolding settled valued state_fits
  moved_keeps lut state m true f =
      let r = f tt in
      (record { accepted = r.accepted; phase_fits = r.phase_fits; rate_fits = r.rate_fits }, tt)
  moved_keeps lut state m false f = (s, tt)

  module _ (lut : List Float) (state : ℕ) where
    stepped_valid : (scale : Float) → T (step_fits lfo scale) → Valid (stepped lfo state scale).lfo
    stepped_valid scale t = record {
      accepted = step_leaves_accepted lfo s.accepted state scale s.phase_fits t;
      phase_fits = step_phase_fits lfo state scale;
      rate_fits = unfold stepped moved_to in s.rate_fits;
    }

    step_keeps : (scale : Float) → let answer = step_answer lut (beside lfo state) scale in
        Kept (state_after answer).lfo (number_told answer)
    unfolding step_answer
    step_keeps scale =
        rw (is_true (state_fits lfo) s.accepted)
        (moved_keeps lut state (stepped lfo state scale) (step_fits lfo scale) (stepped_valid scale))

    scrubbed_valid : (sample : Float) → T (scrub_fits lfo sample) → Valid (scrubbed lfo state sample).lfo
    scrubbed_valid sample t = record {
      accepted = scrub_leaves_accepted lfo s.accepted state sample t;
      phase_fits = scrub_phase_fits lfo state sample;
      rate_fits = unfold scrubbed moved_to in s.rate_fits;
    }

    scrub_keeps : (sample : Float)
        → let answer = scrub_answer lut (beside lfo state) sample in
        Kept (state_after answer).lfo (number_told answer)
    unfolding scrub_answer
    scrub_keeps sample =
        rw (is_true (state_fits lfo) s.accepted)
        (moved_keeps lut state (scrubbed lfo state sample) (scrub_fits lfo sample) (scrubbed_valid sample))

-- every call leaves a valid LFO, and its number is no 9
pub call_keeps : (lfo : Lfo) → Valid lfo → (call : Call)
    → Kept (lfo_after lfo (answer_to call lfo)) (number_of (answer_to call lfo))
unfolding answer_to value_answer delay_ramp_answer pitch_mod_answer amp_mod_answer
call_keeps lfo s (Set m) = set_keeps lfo s m
call_keeps lfo s Reset = reset_keeps lfo s
call_keeps lfo s (Step lut state scale) = step_keeps lfo s lut state scale
call_keeps lfo s (Scrub lut state sample) = scrub_keeps lfo s lut state sample
call_keeps lfo s (Value lut) = (s, read_number_lem lfo s _)
call_keeps lfo s DelayRamp = (s, read_number_lem lfo s _)
call_keeps lfo s PitchMod = (s, read_number_lem lfo s _)
call_keeps lfo s AmpMod = (s, read_number_lem lfo s _)

-- ---- an LFO that 9 refuses

pub no_lfo_refused : state_fits no_lfo ≡ false
unfolding no_lfo moved_to fresh_lfo state_fits decimal le lt
no_lfo_refused = refl

-- as a refused start hands it out
pub refused_init : (rate : Float) → ((number_told (init_answer rate)) ≡ 0 → ⊥) → (state_after (init_answer rate)) ≡ no_lfo
unfolding init_answer
refused_init rate = go (sample_rate_fits rate)
  where
    answer : Bool → Result Lfo (Refused Lfo)
    answer b = cond b (Ok (fresh_lfo (decimal 1 0 ⊘ rate) (decimal 1 1))) (refused SampleRate no_lfo)

    go : (b : Bool) → (number_told (answer b) ≡ 0 → ⊥) → state_after (answer b) ≡ no_lfo
    go true n = absurd (n refl)
    go false n = refl

-- every call is then refused with 9
pub call_refused : (lfo : Lfo) → state_fits lfo ≡ false → (call : Call) → answer_to call lfo ≡ refusal_of call lfo
unfolding answer_to refusal_of set_answer reset_answer step_answer scrub_answer
    value_answer delay_ramp_answer pitch_mod_answer amp_mod_answer
call_refused lfo e (Set m) = rw e refl
call_refused lfo e Reset = rw e refl
call_refused lfo e (Step lut state scale) = rw e refl
call_refused lfo e (Scrub lut state sample) = rw e refl
call_refused lfo e (Value lut) = rw e refl
call_refused lfo e DelayRamp = rw e refl
call_refused lfo e PitchMod = rw e refl
call_refused lfo e AmpMod = rw e refl
