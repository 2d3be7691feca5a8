-- The conversions of dx_units.rs, in its order: one rounding per written operation, in the Rust's order. Definitions
-- only, all to be believed. A step of level is 0.75 dB, an eighth of an octave.
use Rattle.std.specs.Prelude.{not, ◌&&◌, ◌||◌, cond, List, ℕ, ◌+◌, ◌-◌, ◌*◌, ◌/◌, ◌%◌, ◌^◌, max, eqb, ltb, pos, get_or}
use Rattle.std.specs.Prelude.{Float}
use Rattle.std.specs.Float.{nan, binary32}
use Rattle.std.specs.Float.Ieee.{neg, lt, of_int}
use Rattle.std.specs.Int.{w32}
use Rattle.std.proofs.Common.{to_z}
use Rattle.numbers.specs.F32.{◌⊕◌, ◌⊖◌, ◌⊗◌, ◌⊘◌, decimal, as_float}
use Rattle.numbers.specs.Extremes.{minimum, maximum, magnitude}
use Rattle.numbers.specs.Words.{shifted32}
use Rattle.utils.specs.Interpolate.{interpolated}
use Rattle.units.specs.Ratio.{ratio_of}
use Rattle.dx_units_power.specs.Pow.{pow2_fast}
use Rattle.dx_units_inner.specs.declared.Increments.{Increments}
use Rattle.dx_units_inner.specs.declared.Ratio.{Ratio}
use Rattle.dx_units_inner.specs.declared.Ratio.TheVariants.{Note, Hertz}
use Rattle.dx_units_inner.specs.Tables.{lut_coarse, lut_amp_mod_sensitivity, lut_pitch_mod_sensitivity, lut_cube_root}

-- an operator's or a stage's level, 0 to 99, in steps, 0 to 127, as u8: what the chip's total level leaves of 127.
-- From 20 on a line of one step a level; 15 to 19 one step under it; up to 14 a parabola down to 0
unfoldable pub operator_level : ℕ → ℕ
operator_level level =
    cond (ltb level 20) (cond (ltb level 15) (level * (36 - level) / 8) (27 + level)) (level + 28) % 2 ^ 8

-- a pitch envelope's level, 0 to 99, in octaves: 50 is none, 32 levels are one, and past one octave a square makes it
-- steeper, so that both ends are four away
unfoldable pub pitch_envelope_level : ℕ → Float
pitch_envelope_level level =
    let l = (as_float level ⊖ decimal 50 0) ⊘ decimal 32 0 in
    let tail = maximum (magnitude (l ⊕ decimal 2 2) ⊖ decimal 1 0) (decimal 0 0) in
    l ⊗ (decimal 1 0 ⊕ tail ⊗ tail ⊗ decimal 53056 4)

-- an operator envelope's rate, 0 to 99, as octaves of amplitude in a sample at 44,100 Hz: 64 steps of which four double
-- it, each a mantissa of three bits, shifted as an i32
unfoldable pub operator_envelope_increment : ℕ → Float
operator_envelope_increment rate =
    let scaled = rate * 41 / 64 in
    of_int binary32 (to_z w32 (shifted32 (4 + scaled % 4) (2 + scaled / 4))) ⊘ decimal 16777216 0

-- a pitch envelope's rate, 0 to 99, as octaves of pitch in a sample at 44,100 Hz: an octave takes 21.3 seconds at 0;
-- straight at first, then a fifth power
unfoldable pub pitch_envelope_increment : ℕ → Float
pitch_envelope_increment rate =
    let r = as_float rate ⊗ decimal 1 2 in
    (decimal 1 0 ⊕ decimal 192 0 ⊗ r ⊗ (r ⊗ r ⊗ r ⊗ r ⊕ decimal 3333 4)) ⊘ (decimal 213 1 ⊗ decimal 44100 0)

-- the step of an LFO's frequencies, in Hz
abbrev pub min_lfo_frequency : Float
min_lfo_frequency = decimal 5865 6

-- an LFO's rate, 0 to 99, in such steps: stretched to 1 to 255 and times 11, from 160 on times one more with every 16
unfoldable pub lfo_steps : ℕ → ℕ
lfo_steps rate =
    let scaled = cond (eqb rate 0) 1 (rate * 165 / 64) in
    scaled * cond (ltb scaled 160) 11 (11 + (scaled - 160) / 16)

-- an LFO's rate, 0 to 99, in Hz
unfoldable pub lfo_frequency : ℕ → Float
lfo_frequency rate = as_float (lfo_steps rate) ⊗ min_lfo_frequency

-- an LFO's delay, 0 to 99, in such steps, which a delay shorter by 16 doubles: 99 - delay as u8, 16 and its lower four
-- bits, shifted by the others
unfoldable pub delay_steps : ℕ → ℕ
delay_steps delay =
    let d = (99 + 2 ^ 8 - delay) % 2 ^ 8 in
    shifted32 (16 + d % 16) (1 + d / 16)

-- an LFO's delay, 0 to 99, as two increments in Hz, the delay's and the fade's: the second has the steps' bits from 7
-- to 15, 128 at least; both are over at once where the delay is 0
unfoldable pub lfo_delay : ℕ → Increments
lfo_delay delay =
    let d = delay_steps delay in
    cond (eqb delay 0) (record { first = decimal 100000 0; second = decimal 100000 0 })
    (record {
      first = as_float d ⊗ min_lfo_frequency;
      second = as_float (max 128 (d / 128 % 512 * 128)) ⊗ min_lfo_frequency;
    })

-- a velocity, 0 to 1, as the steps that each unit of sensitivity changes a level by: 16 times its cube root, less
-- 0.918, by straight lines between the table's entries; none at about 0.77
unfoldable pub normalized_velocity_of : Float → Float
normalized_velocity_of velocity =
    decimal 16 0 ⊗ (interpolated lut_cube_root (minimum velocity (decimal 99 2)) (decimal 16 0) ⊖ decimal 918 3)

-- what a note makes of an envelope's increments, as a factor: 1 at note 21, and 96 notes up double it as often as the
-- scaling, 0 to 7, says
unfoldable pub rate_scaling_of : Float → ℕ → Float
rate_scaling_of note scaling =
    pow2_fast (as_float scaling ⊗ (note ⊗ decimal 33333 5 ⊖ decimal 7 0) ⊗ decimal 3125 5) (pos 1)

-- an operator's amplitude modulation sensitivity, 0 to 3, as the share of the modulation that it takes
unfoldable pub amp_mod_sensitivity_of : ℕ → Float
amp_mod_sensitivity_of sensitivity = get_or lut_amp_mod_sensitivity sensitivity nan

-- the pitch modulation sensitivity, 0 to 7, as the octaves from the LFO's lowest value to its highest, at full depth
unfoldable pub pitch_mod_sensitivity_of : ℕ → Float
pitch_mod_sensitivity_of sensitivity = get_or lut_pitch_mod_sensitivity sensitivity nan

-- a distance in semitones, bent by curves 1 and 2 to a cube that comes to 96 at 95.5 semitones and stays there; the
-- others leave it straight
unfoldable pub bent : Float → ℕ → Float
bent t curve =
    let u = minimum (t ⊗ decimal 10467 6) (decimal 1 0) in
    cond (eqb curve 1 || eqb curve 2) (u ⊗ u ⊗ u ⊗ decimal 96 0) t

-- the level's change in steps at a distance from the break point, by the curve and the depth of its side: curves 0 and
-- 1 go down, 2 and 3 up
unfoldable pub side_scaling : Float → ℕ → ℕ → Float
side_scaling x curve depth =
    let t = bent (magnitude x) curve in
    cond (ltb curve 2) (neg t) t ⊗ as_float depth ⊗ decimal 2677 5

-- the level's change in steps at a note; break point 0 is note 15
unfoldable pub keyboard_scaling_of : Float → ℕ → ℕ → ℕ → ℕ → ℕ → Float
keyboard_scaling_of note left_depth right_depth left_curve right_curve break_point =
    let x = note ⊖ as_float break_point ⊖ decimal 15 0 in
    cond (lt (decimal 0 0) x) (side_scaling x right_curve right_depth) (side_scaling x left_curve left_depth)

-- the semitones of the ratio that a coarse number, 0 to 31, names
unfoldable pub coarse_semitones : ℕ → Float
coarse_semitones coarse = get_or lut_coarse coarse nan

-- the semitones without the detune: mode 0 is a ratio to the note, other modes have a frequency from 1 Hz up, in
-- hundredths of a decade of 0.39864 semitones each
unfoldable pub base_semitones : ℕ → ℕ → ℕ → Float
base_semitones mode coarse fine =
    cond (eqb mode 0) (coarse_semitones coarse) (as_float (coarse % 4 * 100 + fine) ⊗ decimal 39864 5)

-- what a fine number multiplies a ratio to the note by: 1.00 to 1.99
unfoldable pub fine_factor : ℕ → ℕ → Float
fine_factor mode fine = cond (eqb mode 0 && not (eqb fine 0)) (decimal 1 0 ⊕ decimal 1 2 ⊗ as_float fine) (decimal 1 0)

-- an operator's frequency: in mode 0 a ratio to the note, else one to 1 Hz; the detune, 7 for none, moves it by 1.5
-- cents a step
unfoldable pub frequency_ratio : List Float → List Float → ℕ → ℕ → ℕ → ℕ → Ratio
frequency_ratio high low mode coarse fine detune =
    let base = base_semitones mode coarse fine ⊕ (as_float detune ⊖ decimal 7 0) ⊗ decimal 15 3 in
    let ratio = ratio_of high low base ⊗ fine_factor mode fine in
    cond (eqb mode 0) (Note ratio) (Hertz ratio)
