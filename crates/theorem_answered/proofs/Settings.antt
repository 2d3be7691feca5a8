-- What a patch's modulations set an LFO at 48,000 Hz to: its phase grows by less than 1 in 64 samples, its delay's
-- increments are above 0, its depths are from 0 to 1, and its pitch sensitivity is at most 2. A test over each field's
-- numbers, which antt computes. Assumes nothing.
use mathlib.Core.Path.{◌≡◌, refl}
use mathlib.Core.Bool.{Bool, true, false, ◌&&◌}
use Prim.Native.Nat.{ℕ, ◌≤◌}
use native.Mathlib.Omega.{arith}
use borrow.Author.Tests.{leb-true}
use lib.Dec.{T, leb}
use lib.Ieee.{Float, lt, le, mul, div, round, of_int}
use lib.Ieee.Bits.{is_true}
use lib.Ieee.Fits.{and_l, and_r}
use lib.Ieee.Positive.{positive}
use Rattle.numbers.specs.F32.{◌⊗◌, ◌⊘◌, decimal, minus_decimal, as_float}
use Rattle.numbers.proofs.Views.{no}
use Rattle.numbers.proofs.Below.{all_below, at_each}
use Rattle.units.proofs.Bounds.{Sized, sized, is_sized}
use Rattle.dx_units_inner.specs.Tables.{lut_pitch_mod_sensitivity}
use Rattle.dx_units_inner.specs.Units.{lfo_steps, lfo_frequency, delay_steps, lfo_delay, pitch_mod_sensitivity_of}
use Rattle.patch.specs.declared.ModulationParameters.{ModulationParameters}
use Rattle.patch.specs.Layout.{lfo_names, lfo_field, lfo_sensitivity}
use Rattle.patch.specs.Form.{lfo_number}
use Rattle.patch.specs.Packed.{within, modulations_fit}
use Rattle.lfo.proofs.Phases.{FromZero}
use Rattle.lfo.proofs.Accepted.{positive_from_zero}
use Rattle.lfo.proofs.Fields.{rate_fits_lem, sensitivity_fits}
use Rattle.numbers.proofs.Sizes.{Held, held, Share}
use Rattle.theorem_answered.proofs.Ranges.{is_share}

-- ---- the tests

-- a sample's part of a second
abbrev pub sample : Float
sample = decimal 1 0 ⊘ decimal 48000 0

slow : ℕ → Bool
slow n = lt (decimal 64 0 ⊗ (lfo_frequency n ⊗ sample)) (decimal 1 0)

grows : ℕ → Bool
grows n = positive ((lfo_delay n).first ⊗ sample) && positive ((lfo_delay n).second ⊗ sample)

deep : ℕ → Bool
deep n = le (decimal 0 0) (as_float n ⊗ decimal 1 2) && le (as_float n ⊗ decimal 1 2) (decimal 1 0)

sensitive : ℕ → Bool
sensitive n = le (minus_decimal 2 0) (pitch_mod_sensitivity_of n) && le (pitch_mod_sensitivity_of n) (decimal 2 0)

all_slow : T (all_below slow 100)
unfolding all_below slow lfo_frequency lfo_steps decimal mul div of_int round lt
all_slow = tt

all_grow : T (all_below grows 100)
unfolding all_below grows lfo_delay delay_steps decimal mul div of_int round
all_grow = tt

all_deep : T (all_below deep 100)
unfolding all_below deep decimal mul of_int round le lt
all_deep = tt

all_sensitive : T (all_below sensitive 8)
unfolding all_below sensitive pitch_mod_sensitivity_of lut_pitch_mod_sensitivity decimal minus_decimal round le lt
all_sensitive = tt

-- ---- for each field

depth_share : (n : ℕ) → n ≤ 99 → Share (as_float n ⊗ decimal 1 2)
unfolding deep
depth_share n h =
    let x = as_float n ⊗ decimal 1 2 in
    let a = le (decimal 0 0) x in
    let b = le x (decimal 1 0) in
    let t = at_each deep 100 all_deep n (omega arith) in
    is_share x (and_l a b t) (and_r a b t)

is_held : (x : Float) → Sized 2 x → Held 2 1 x
is_held _ (sized s m e h) = held s m e (omega arith)

second_to_fourth : (a b c d e : Bool) → (a && (b && (c && (d && e)))) ≡ true → (b ≡ true) × (c ≡ true) × (d ≡ true)
second_to_fourth true true true true e h = (refl, refl, refl)
second_to_fourth true true true false e h = no h
second_to_fourth true true false d e h = no h
second_to_fourth true false c d e h = no h
second_to_fourth false b c d e h = no h

module _ (m : ModulationParameters) (h : modulations_fit m lfo_sensitivity ≡ true) where
  numbers_fit : (m.delay ≤ 99) × (m.pitch_mod_depth ≤ 99) × (m.amp_mod_depth ≤ 99)
  unfolding modulations_fit within lfo_names lfo_field lfo_number
  numbers_fit =
      let t = second_to_fourth (leb m.rate 99) (leb m.delay 99) (leb m.pitch_mod_depth 99)
      (leb m.amp_mod_depth 99) _ h in
      (leb-true m.delay 99 t.0, leb-true m.pitch_mod_depth 99 t.1, leb-true m.amp_mod_depth 99 t.2)

  pub frequency_slow : T (lt (decimal 64 0 ⊗ (lfo_frequency m.rate ⊗ sample)) (decimal 1 0))
  unfolding slow
  frequency_slow = at_each slow 100 all_slow m.rate (let z = rate_fits_lem m _ h in omega arith)

  delay_grows : T (grows m.delay)
  delay_grows = at_each grows 100 all_grow m.delay (let z = numbers_fit.0 in omega arith)

  pub first_from_zero : FromZero ((lfo_delay m.delay).first ⊗ sample)
  unfolding grows
  first_from_zero =
      positive_from_zero _
      (and_l (positive ((lfo_delay m.delay).first ⊗ sample))
      (positive ((lfo_delay m.delay).second ⊗ sample)) delay_grows)

  pub second_from_zero : FromZero ((lfo_delay m.delay).second ⊗ sample)
  unfolding grows
  second_from_zero =
      positive_from_zero _
      (and_r (positive ((lfo_delay m.delay).first ⊗ sample))
      (positive ((lfo_delay m.delay).second ⊗ sample)) delay_grows)

  pub amp_depth_lem : Share (as_float m.amp_mod_depth ⊗ decimal 1 2)
  amp_depth_lem = depth_share m.amp_mod_depth numbers_fit.2

  pub pitch_depth_lem : Share (as_float m.pitch_mod_depth ⊗ decimal 1 2)
  pitch_depth_lem = depth_share m.pitch_mod_depth numbers_fit.1

  pub sensitivity : Held 2 1 (pitch_mod_sensitivity_of m.pitch_mod_sensitivity)
  unfolding sensitive decimal minus_decimal
  sensitivity =
      let x = pitch_mod_sensitivity_of m.pitch_mod_sensitivity in
      let t = at_each sensitive 8 all_sensitive m.pitch_mod_sensitivity
      (let z = sensitivity_fits m _ h in omega arith) in
      let a = le (minus_decimal 2 0) x in
      let b = le x (decimal 2 0) in
      is_held x (is_sized 1 1 x (is_true a (and_l a b t)) (is_true b (and_r a b t)))
