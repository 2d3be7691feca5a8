-- What each conversion's entry answers: a value, or a refusal. Definitions only, all to be
-- believed.
use Rattle.std.specs.Prelude.{Bool, ◌&&◌, cond, ℕ, Float, Result, Ok, Err}
use Rattle.std.specs.Result.{result_and}
use Rattle.units.specs.Tables.{lut_pitch_ratio_high, lut_pitch_ratio_low}
use Rattle.dx_units_inner.specs.declared.Increments.{Increments}
use Rattle.dx_units_inner.specs.declared.Ratio.{Ratio}
use Rattle.dx_units_inner.specs.Units.{operator_level, pitch_envelope_level, operator_envelope_increment}
use Rattle.dx_units_inner.specs.Units.{pitch_envelope_increment, lfo_frequency, lfo_delay, normalized_velocity_of}
use Rattle.dx_units_inner.specs.Units.{rate_scaling_of}
use Rattle.dx_units_inner.specs.Units.{amp_mod_sensitivity_of, pitch_mod_sensitivity_of, keyboard_scaling_of}
use Rattle.dx_units_inner.specs.Units.{frequency_ratio}
use Rattle.patch.specs.declared.KeyboardScaling.{KeyboardScaling}
use Rattle.patch.specs.Layout.{envelope_field, operator_field, lfo_field, lfo_sensitivity}
use Rattle.patch.specs.Layout.{Rate, Level as StageLevel, OutputLevel, RateScaling, AmplitudeSensitivity}
use Rattle.patch.specs.Layout.{Mode, Coarse, Fine, Detune, LfoRate, LfoDelay, PitchSensitivity}
use Rattle.patch.specs.Packed.{field_fits, scaling_fits}
use Rattle.patch_limits.specs.Ranges.{note_fits, unit_fits}
use Rattle.refusals.specs.declared.Refusal.{Refusal}
use Rattle.refusals.specs.declared.Refusal.TheVariants.{Field, Parameter}

-- ---- what is refused

-- 6 for a field above its largest number
abbrev pub field_checked : {A : Type 0} → Bool → A → Result A Refusal
field_checked fits value = cond fits (Ok value) (Err Field)

-- 7 for a parameter that is a NaN or outside its range
abbrev pub parameter_checked : {A : Type 0} → Bool → A → Result A Refusal
parameter_checked fits value = cond fits (Ok value) (Err Parameter)

-- a field and a parameter: the field first
abbrev pub both_checked : {A : Type 0} → Bool → Bool → A → Result A Refusal
both_checked field parameter value = result_and (field_checked field value) (parameter_checked parameter value)

-- the largest numbers of a frequency
unfoldable pub frequency_fits : ℕ → ℕ → ℕ → ℕ → Bool
frequency_fits mode coarse fine detune =
    field_fits (operator_field Mode) mode
    && field_fits (operator_field Coarse) coarse
    && field_fits (operator_field Fine) fine
    && field_fits (operator_field Detune) detune

-- ---- the answers; a rate and a level have one limit in all four stages

unfoldable pub operator_level_answer : ℕ → Result ℕ Refusal
operator_level_answer n = field_checked (field_fits (operator_field OutputLevel) n) (operator_level n)

unfoldable pub pitch_envelope_level_answer : ℕ → Result Float Refusal
pitch_envelope_level_answer n =
    field_checked (field_fits (envelope_field (StageLevel 0)) n) (pitch_envelope_level n)

unfoldable pub operator_envelope_increment_answer : ℕ → Result Float Refusal
operator_envelope_increment_answer rate =
    field_checked (field_fits (envelope_field (Rate 0)) rate) (operator_envelope_increment rate)

unfoldable pub pitch_envelope_increment_answer : ℕ → Result Float Refusal
pitch_envelope_increment_answer rate =
    field_checked (field_fits (envelope_field (Rate 0)) rate) (pitch_envelope_increment rate)

unfoldable pub lfo_frequency_answer : ℕ → Result Float Refusal
lfo_frequency_answer rate =
    field_checked (field_fits (lfo_field lfo_sensitivity LfoRate) rate) (lfo_frequency rate)

unfoldable pub lfo_delay_answer : ℕ → Result Increments Refusal
lfo_delay_answer n = field_checked (field_fits (lfo_field lfo_sensitivity LfoDelay) n) (lfo_delay n)

unfoldable pub normalize_velocity_answer : Float → Result Float Refusal
normalize_velocity_answer velocity =
    parameter_checked (unit_fits velocity) (normalized_velocity_of velocity)

unfoldable pub rate_scaling_answer : Float → ℕ → Result Float Refusal
rate_scaling_answer note scaling =
    both_checked (field_fits (operator_field RateScaling) scaling) (note_fits note)
    (rate_scaling_of note scaling)

unfoldable pub amp_mod_sensitivity_answer : ℕ → Result Float Refusal
amp_mod_sensitivity_answer sensitivity =
    field_checked (field_fits (operator_field AmplitudeSensitivity) sensitivity)
    (amp_mod_sensitivity_of sensitivity)

unfoldable pub pitch_mod_sensitivity_answer : ℕ → Result Float Refusal
pitch_mod_sensitivity_answer sensitivity =
    field_checked (field_fits (lfo_field lfo_sensitivity PitchSensitivity) sensitivity)
    (pitch_mod_sensitivity_of sensitivity)

-- the limits of its five numbers are those of a patch's: `five_fit` tells them one by one
unfoldable pub keyboard_scaling_answer : Float → KeyboardScaling → Result Float Refusal
keyboard_scaling_answer note k =
    both_checked (scaling_fits k) (note_fits note)
    (keyboard_scaling_of note k.left_depth k.right_depth k.left_curve k.right_curve k.break_point)

unfoldable pub frequency_ratio_answer : ℕ → ℕ → ℕ → ℕ → Result Ratio Refusal
frequency_ratio_answer mode coarse fine detune =
    field_checked (frequency_fits mode coarse fine detune)
    (frequency_ratio lut_pitch_ratio_high lut_pitch_ratio_low mode coarse fine detune)
