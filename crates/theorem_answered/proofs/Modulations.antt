-- An LFO's modulations stay in a voice block's ranges: from the state that an accepted patch sets it to, every step of
-- 64 samples is accepted, and then its pitch modulation is from -4 to 4 and its amplitude modulation from 0 to 1.
-- Assumes nothing.
use mathlib.Core.Path.{◌≡◌, refl}
use mathlib.Core.Bool.{true}
use Prim.Native.Nat.{ℕ}
use lib.Dec.{T}
use lib.IntN.{pos}
use lib.Ieee.{Float, lt, le}
use lib.Ieee.Bits.{is_true}
use lib.Ieee.Fits.{and_i}
use Rattle.numbers.specs.F32.{◌⊕◌, ◌⊖◌, ◌⊗◌, decimal, minus_decimal, as_float}
use Rattle.dx_units_inner.specs.Units.{pitch_mod_sensitivity_of}
use Rattle.patch.specs.declared.Patch.{Patch}
use Rattle.patch.specs.declared.ModulationParameters.{ModulationParameters}
use Rattle.patch.specs.Layout.{lfo_sensitivity}
use Rattle.patch.specs.Packed.{modulations_fit}
use Rattle.patch_limits.specs.Ranges.{between, unit_fits, sample_rate_fits}
use Rattle.sine.specs.Table.{lut_sine}
use Rattle.std.specs.Prelude.{Ok}
use Rattle.lfo_inner.specs.declared.Lfo.{Lfo}
use Rattle.lfo_inner.specs.declared.Motion.{Motion}
use Rattle.lfo_inner.specs.Lfo.{fresh_lfo, adjusted, moved_to, valued, restarted, stepped, settled, first_of, second_of}
use Rattle.lfo_inner.specs.Lfo.{ramp_of, pitch_mod_of, amp_mod_of}
use Rattle.lfo.specs.Answers.{from_zero, state_fits, step_fits, step_answer, reset_answer, pitch_mod_answer}
use Rattle.lfo.specs.Answers.{amp_mod_answer}
use Rattle.lfo.specs.Calls.{Reset, Step, answer_to, Valid}
use Rattle.lfo.proofs.Phases.{FromZero, plus}
use Rattle.lfo.proofs.Accepted.{phase_part}
use Rattle.lfo.proofs.Calls.{call_keeps}
use Rattle.identity.proofs.Refused.{lfo_taken, taken_valid}
use Rattle.theorem_answered.proofs.Ranges.{share_low, share_high, held_low, held_high}
use Rattle.numbers.proofs.Sizes.{Held, Share}
use Rattle.theorem_answered.proofs.Shares.{share_small, product_small, product_two, product_share, past_half}
use Rattle.theorem_answered.proofs.Waves.{zero_share, down_share, wave_share, drawn_share}
use Rattle.theorem_answered.proofs.Delays.{delay_share, ramp_share}
use Rattle.theorem_answered.proofs.Settings.{frequency_slow, first_from_zero, second_from_zero, amp_depth_lem}
use Rattle.theorem_answered.proofs.Settings.{pitch_depth_lem, sensitivity}

-- an LFO whose step of 64 samples is accepted and whose modulations are in a block's ranges
pub record Tame (lfo : Lfo) : Type 0 where
  pub valid : Valid lfo
  pub slow : T (lt (decimal 64 0 ⊗ lfo.frequency) (decimal 1 0))
  pub value : Share lfo.value
  pub last : Share lfo.random_value
  pub delay : Share lfo.delay_phase
  pub first : FromZero (first_of lfo)
  pub second : FromZero (second_of lfo)
  pub amp_depth : Share lfo.amp_mod_depth
  -- a pitch sensitivity goes up to 2
  pub pitch_depth : Held 2 1 lfo.pitch_mod_depth

-- ---- the readings

half_past : (x : Float) → Share x → Held 1 1 (x ⊖ decimal 5 1)
unfolding decimal
half_past x s = past_half x s

pitch_held : (lfo : Lfo) → Tame lfo → Held 2 1 (pitch_mod_of lfo)
unfolding pitch_mod_of
pitch_held lfo t =
    let x = lfo.value ⊖ decimal 5 1 in
    let y = ramp_of lfo.delay_phase in
    let r = share_small y (ramp_share lfo.delay_phase t.delay) in
    product_two (x ⊗ y) lfo.pitch_mod_depth (product_small x y (half_past lfo.value t.value) r) t.pitch_depth

amp_share : (lfo : Lfo) → Tame lfo → Share (amp_mod_of lfo)
unfolding amp_mod_of
amp_share lfo t =
    let x = decimal 1 0 ⊖ lfo.value in
    let y = ramp_of lfo.delay_phase in
    let r = ramp_share lfo.delay_phase t.delay in
    product_share (x ⊗ y) lfo.amp_mod_depth (product_share x y (down_share lfo.value t.value) r) t.amp_depth

pub pitch_within : (lfo : Lfo) → Tame lfo
    → (pitch_mod_answer lfo ≡ Ok (pitch_mod_of lfo)) × T (between (minus_decimal 4 0) (decimal 4 0) (pitch_mod_of lfo))
unfolding pitch_mod_answer
pitch_within lfo t =
    let p = pitch_held lfo t in
    rw (is_true (state_fits lfo) t.valid.accepted) (
      refl,
      and_i (le (minus_decimal 4 0) (pitch_mod_of lfo)) (le (pitch_mod_of lfo) (decimal 4 0))
          (held_low (pitch_mod_of lfo) p) (held_high (pitch_mod_of lfo) p),
    )

pub amp_within : (lfo : Lfo) → Tame lfo → (amp_mod_answer lfo ≡ Ok (amp_mod_of lfo)) × T (unit_fits (amp_mod_of lfo))
unfolding amp_mod_answer
amp_within lfo t =
    let u = amp_share lfo t in
    rw (is_true (state_fits lfo) t.valid.accepted) (
      refl,
      and_i (le (decimal 0 0) (amp_mod_of lfo)) (le (amp_mod_of lfo) (decimal 1 0))
          (share_low (amp_mod_of lfo) u) (share_high (amp_mod_of lfo) u),
    )

-- ---- a step

scale_from_zero : FromZero (decimal 64 0)
unfolding decimal
scale_from_zero = plus 1 (pos 6)

scale_fits : from_zero (decimal 64 0) ≡ true
unfolding from_zero decimal le lt
scale_fits = refl

step_accepted : (lfo : Lfo) → Tame lfo → step_fits lfo (decimal 64 0) ≡ true
unfolding step_fits
step_accepted lfo t = rw (scale_fits, is_true (lt (decimal 64 0 ⊗ lfo.frequency) (decimal 1 0)) t.slow) refl

step_is : (m : Motion) → Tame m.lfo
    → step_answer lut_sine m (decimal 64 0) ≡ Ok (settled lut_sine (stepped m.lfo m.state (decimal 64 0)))
unfolding step_answer
step_is m t = rw (is_true (state_fits m.lfo) t.valid.accepted, step_accepted m.lfo t) refl

step_valid : (m : Motion) → Tame m.lfo → Valid (settled lut_sine (stepped m.lfo m.state (decimal 64 0))).lfo
unfolding answer_to
step_valid m t = rw (step_is m t) at (call_keeps m.lfo t.valid (Step lut_sine m.state (decimal 64 0))).0

settled_tame : (lfo : Lfo) (state : ℕ) → Tame lfo → Valid (settled lut_sine (stepped lfo state (decimal 64 0))).lfo
    → Tame (settled lut_sine (stepped lfo state (decimal 64 0))).lfo
settled_tame lfo state t v =
    let b = le (decimal 1 0) (lfo.phase ⊕ decimal 64 0 ⊗ lfo.frequency) in
    let last = drawn_share b lfo.random_value state t.last in
    let delay =
    delay_share lfo.delay_phase (first_of lfo) (second_of lfo) (decimal 64 0) t.delay t.first t.second
    scale_from_zero in
    unfold settled stepped moved_to valued in
    record {
      valid = v;
      slow = t.slow;
      value = wave_share lfo.waveform _ _ (phase_part _ v.accepted v.phase_fits) last;
      last = last;
      delay = delay;
      first = t.first;
      second = t.second;
      amp_depth = t.amp_depth;
      pitch_depth = t.pitch_depth;
    }

pub step_tame : (m : Motion) → Tame m.lfo
    → let there = settled lut_sine (stepped m.lfo m.state (decimal 64 0)) in
    (step_answer lut_sine m (decimal 64 0) ≡ Ok there) × Tame there.lfo
step_tame m t = (step_is m t, settled_tame m.lfo m.state t (step_valid m t))

-- ---- the beginning

pub rate_accepted : T (sample_rate_fits (decimal 48000 0))
unfolding sample_rate_fits decimal le lt
rate_accepted = tt

-- an LFO that an accepted patch set can be reset
pub reset_is : (lfo : Lfo) → Valid lfo → reset_answer lfo ≡ Ok (restarted lfo)
unfolding reset_answer
reset_is lfo v = rw (is_true (state_fits lfo) v.accepted) refl

reset_valid : (lfo : Lfo) → Valid lfo → Valid (restarted lfo)
unfolding answer_to
reset_valid lfo v = rw (reset_is lfo v) at (call_keeps lfo v Reset).0

pitch_depth_held : (m : ModulationParameters) → modulations_fit m lfo_sensitivity ≡ true
    → Held 2 1 (as_float m.pitch_mod_depth ⊗ decimal 1 2 ⊗ pitch_mod_sensitivity_of m.pitch_mod_sensitivity)
pitch_depth_held m h =
    let x = as_float m.pitch_mod_depth ⊗ decimal 1 2 in
    product_two x (pitch_mod_sensitivity_of m.pitch_mod_sensitivity) (share_small x (pitch_depth_lem m h))
    (sensitivity m h)

-- the LFO that it sets
pub ready_tame : (p : Patch) → modulations_fit p.modulations lfo_sensitivity ≡ true → Tame (restarted (lfo_taken p))
ready_tame p h =
    let m = p.modulations in
    let v = reset_valid (lfo_taken p) (taken_valid p h) in
    unfold restarted moved_to adjusted fresh_lfo in
    record {
      valid = v;
      slow = frequency_slow m h;
      value = zero_share;
      last = zero_share;
      delay = zero_share;
      first = first_from_zero m h;
      second = second_from_zero m h;
      amp_depth = amp_depth_lem m h;
      pitch_depth = pitch_depth_held m h;
    }
