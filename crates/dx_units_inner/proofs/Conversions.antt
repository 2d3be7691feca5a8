-- What each conversion gives, from what its calls ensure, over plain variables. Assumes nothing.
use mathlib.Core.Path.{◌≡◌, refl}
use mathlib.Core.Bool.{true, false, ◌||◌}
use mathlib.Core.List.{List}
use Prim.Native.Nat.{ℕ, zero, suc, ◌+◌, ◌-◌, ◌*◌, ◌/◌, ◌%◌, ◌≤◌, ◌<◌, max}
use native.Mathlib.Nat.{mul-le-mul}
use native.Mathlib.Omega.{arith}
use borrow.Author.Tests.{eq-eqb, ne_eqb, lt-ltb, le-ltb}
use lib.Dec.{eqb}
use lib.IntN.{ℤ}
use lib.Ieee.{Float, binary32, neg, lt, of_int}
use mir.Syntax.{w32}
use mir.Val.{to_z}
use Rattle.numbers.specs.F32.{◌⊕◌, ◌⊖◌, ◌⊗◌, ◌⊘◌, decimal, as_float}
use Rattle.numbers.specs.Extremes.{minimum, maximum, magnitude}
use Rattle.numbers.specs.Words.{shifted32}
use Rattle.utils.specs.Interpolate.{interpolated}
use Rattle.units.specs.Ratio.{ratio_of}
use Rattle.dx_units_inner.specs.declared.Increments.{Increments}
use Rattle.dx_units_inner.specs.declared.Ratio.TheVariants.{Note, Hertz}
use Rattle.dx_units_inner.specs.Tables.{lut_cube_root}
use Rattle.dx_units_inner.specs.Units.{pitch_envelope_level, operator_envelope_increment, lfo_steps}
use Rattle.dx_units_inner.specs.Units.{lfo_frequency, delay_steps, lfo_delay, normalized_velocity_of, bent}
use Rattle.dx_units_inner.specs.Units.{side_scaling}
use Rattle.dx_units_inner.specs.Units.{keyboard_scaling_of, coarse_semitones, base_semitones, fine_factor}
use Rattle.dx_units_inner.specs.Units.{frequency_ratio}

-- ---- levels

pub pitch_level : (level : ℕ) {a t : Float}
    → a ≡ magnitude ((as_float level ⊖ decimal 50 0) ⊘ decimal 32 0 ⊕ decimal 2 2)
    → t ≡ maximum (a ⊖ decimal 1 0) (decimal 0 0)
    → (as_float level ⊖ decimal 50 0) ⊘ decimal 32 0 ⊗ (decimal 1 0 ⊕ t ⊗ t ⊗ decimal 53056 4)
    ≡ pitch_envelope_level level
unfolding pitch_envelope_level
pitch_level level ea et = simp (et, ea)

-- ---- rates

pub increment : (rate : ℕ) {b : ℕ} {n m : ℤ} {v : Float}
    → b ≡ shifted32 (4 + rate * 41 / 64 % 4) (2 + rate * 41 / 64 / 4) → n ≡ to_z w32 b → m ≡ n → v ≡ of_int binary32 m
    → v ⊘ decimal 16777216 0 ≡ operator_envelope_increment rate
unfolding operator_envelope_increment
increment rate eb en em ev = simp (ev, em, en, eb)

-- n is the LFO's scaled rate: its product fits
pub steps_small : (n : ℕ) → n ≤ 657 → n * (11 + (n - 160) / 16) ≤ 657 * 42
steps_small n h = let b : 11 + (n - 160) / 16 ≤ 42 = omega arith in mul-le-mul h b

pub steps_none : (rate : ℕ) → rate ≡ 0 → 11 ≡ lfo_steps rate
unfolding lfo_steps
steps_none rate e = simp (eq-eqb rate 0 e)

pub steps_low : (rate : ℕ) → (rate ≡ 0 → ⊥) → rate * 165 / 64 < 160 → rate * 165 / 64 * 11 ≡ lfo_steps rate
unfolding lfo_steps
steps_low rate n h = simp (ne_eqb rate 0 n, lt-ltb (rate * 165 / 64) 160 h)

pub steps_high : (rate : ℕ) → (rate ≡ 0 → ⊥) → 160 ≤ rate * 165 / 64
    → rate * 165 / 64 * (11 + (rate * 165 / 64 - 160) / 16) ≡ lfo_steps rate
unfolding lfo_steps
steps_high rate n h = simp (ne_eqb rate 0 n, le-ltb (rate * 165 / 64) 160 h)

pub frequency : (rate : ℕ) {n : ℕ} {v : Float} → n ≡ lfo_steps rate → v ≡ as_float n
    → v ⊗ decimal 5865 6 ≡ lfo_frequency rate
unfolding lfo_frequency
frequency rate en ev = simp (ev, en)

-- ---- the LFO's delay

pub delay_none : (delay : ℕ) → delay ≡ 0 → ◌≡◌ {A =
    Increments} (record { first = decimal 100000 0; second = decimal 100000 0 }) (lfo_delay delay)
unfolding lfo_delay
delay_none delay e = simp (eq-eqb delay 0 e)

pub delay_some : (delay : ℕ) {d k : ℕ} {v w : Float} → (delay ≡ 0 → ⊥) → d ≡ delay_steps delay
    → k ≡ max 128 (d / 128 % 512 * 128) → v ≡ as_float d → w ≡ as_float k
    → ◌≡◌ {A = Increments} (record { first = v ⊗ decimal 5865 6; second = w ⊗ decimal 5865 6 }) (lfo_delay delay)
unfolding lfo_delay
delay_some delay n ed ek ev ew = simp (ne_eqb delay 0 n, ev, ew, ek, ed)

-- ---- velocity and rate scaling

pub velocity : (v : Float) {m r : Float} → m ≡ minimum v (decimal 99 2)
    → r ≡ interpolated lut_cube_root m (decimal 16 0)
    → decimal 16 0 ⊗ (r ⊖ decimal 918 3) ≡ normalized_velocity_of v
unfolding normalized_velocity_of
velocity v em er = simp (er, em)

-- ---- keyboard scaling

one_or_two : (curve : ℕ) → 1 ≤ curve → curve < 3 → (eqb curve 1 || eqb curve 2) ≡ true
one_or_two zero h k = absurd (omega arith)
one_or_two (suc zero) h k = refl
one_or_two (suc (suc zero)) h k = refl
one_or_two (suc (suc (suc n))) h k = absurd (omega arith)

module _ (t u : Float) (curve : ℕ) (eu : u ≡ minimum (t ⊗ decimal 10467 6) (decimal 1 0)) where
  -- curves 1 and 2
  pub bent_cube : 1 ≤ curve → curve < 3 → u ⊗ u ⊗ u ⊗ decimal 96 0 ≡ bent t curve
  unfolding bent
  bent_cube h k = simp (one_or_two curve h k, eu)

pub bent_not : (t : Float) (curve : ℕ) → (curve ≡ 1 → ⊥) → (curve ≡ 2 → ⊥) → t ≡ bent t curve
unfolding bent
bent_not t curve n o = simp (ne_eqb curve 1 n, ne_eqb curve 2 o)

module _ (x : Float) (curve depth : ℕ) {a t : Float} (ea : a ≡ magnitude x) (et : t ≡ bent a curve) where
  pub side_down : curve < 2 → neg t ⊗ as_float depth ⊗ decimal 2677 5 ≡ side_scaling x curve depth
  unfolding side_scaling
  side_down h = simp (lt-ltb curve 2 h, et, ea)

  pub side_up : 2 ≤ curve → t ⊗ as_float depth ⊗ decimal 2677 5 ≡ side_scaling x curve depth
  unfolding side_scaling
  side_up h = simp (le-ltb curve 2 h, et, ea)

module _ (note : Float) (left_depth right_depth left_curve right_curve break_point : ℕ) {r : Float} where
  pub on_right : lt (decimal 0 0) (note ⊖ as_float break_point ⊖ decimal 15 0) ≡ true
      → r ≡ side_scaling (note ⊖ as_float break_point ⊖ decimal 15 0) right_curve right_depth
      → r ≡ keyboard_scaling_of note left_depth right_depth left_curve right_curve break_point
  unfolding keyboard_scaling_of
  on_right h e = simp h e

  pub on_left : lt (decimal 0 0) (note ⊖ as_float break_point ⊖ decimal 15 0) ≡ false
      → r ≡ side_scaling (note ⊖ as_float break_point ⊖ decimal 15 0) left_curve left_depth
      → r ≡ keyboard_scaling_of note left_depth right_depth left_curve right_curve break_point
  unfolding keyboard_scaling_of
  on_left h e = simp h e

-- ---- frequency

pub base_note : (mode coarse fine : ℕ) {r : Float} → mode ≡ 0 → r ≡ coarse_semitones coarse
    → r ≡ base_semitones mode coarse fine
unfolding base_semitones
base_note mode coarse fine e er = simp (eq-eqb mode 0 e) er

pub base_hertz : (mode coarse fine : ℕ) → (mode ≡ 0 → ⊥)
    → as_float (coarse % 4 * 100 + fine) ⊗ decimal 39864 5 ≡ base_semitones mode coarse fine
unfolding base_semitones
base_hertz mode coarse fine n = simp (ne_eqb mode 0 n)

pub factor_fine : (mode fine : ℕ) → mode ≡ 0 → (fine ≡ 0 → ⊥)
    → decimal 1 0 ⊕ decimal 1 2 ⊗ as_float fine ≡ fine_factor mode fine
unfolding fine_factor
factor_fine mode fine e n = simp (eq-eqb mode 0 e, ne_eqb fine 0 n)

pub factor_none : (mode fine : ℕ) → mode ≡ 0 → fine ≡ 0 → decimal 1 0 ≡ fine_factor mode fine
unfolding fine_factor
factor_none mode fine e n = simp (eq-eqb mode 0 e, eq-eqb fine 0 n)

pub factor_hertz : (mode fine : ℕ) → (mode ≡ 0 → ⊥) → decimal 1 0 ≡ fine_factor mode fine
unfolding fine_factor
factor_hertz mode fine n = simp (ne_eqb mode 0 n)

module _ (high low : List Float) (mode coarse fine detune : ℕ) {b r f : Float}
    (eb : b ≡ base_semitones mode coarse fine)
    (er : r ≡ ratio_of high low (b ⊕ (as_float detune ⊖ decimal 7 0) ⊗ decimal 15 3))
    (ef : f ≡ fine_factor mode fine) where
  pub to_note : mode ≡ 0 → Note (r ⊗ f) ≡ frequency_ratio high low mode coarse fine detune
  unfolding frequency_ratio
  to_note e = simp (eq-eqb mode 0 e, er, ef, eb)

  pub to_hertz : (mode ≡ 0 → ⊥) → Hertz (r ⊗ f) ≡ frequency_ratio high low mode coarse fine detune
  unfolding frequency_ratio
  to_hertz n = simp (ne_eqb mode 0 n, er, ef, eb)
