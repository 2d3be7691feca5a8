-- The LFO, after lfo.rs and in its order: one rounding per written operation, in the Rust's order. Definitions only.
use Rattle.std.specs.Prelude.{Bool, true, false, not, cond, List, [], ◌∷◌, ℕ, eqb, ℤ, pos, negsuc, get_or, Float}
use Rattle.std.specs.Float.{nan, binary32}
use Rattle.std.specs.Float.Ieee.{lt, le, of_int, to_signed}
use Rattle.numbers.specs.F32.{◌⊕◌, ◌⊖◌, ◌⊗◌, ◌⊘◌, decimal, as_float}
use Rattle.dx_units_inner.specs.Units.{lfo_frequency, lfo_delay, pitch_mod_sensitivity_of}
use Rattle.patch.specs.declared.ModulationParameters.{ModulationParameters}
use Rattle.random.specs.declared.Drawn.{Drawn}
use Rattle.random.specs.Random.{draw}
use Rattle.sine.specs.Sine.{sine_of}
use Rattle.lfo_inner.specs.declared.Waveform.{Waveform}
use Rattle.lfo_inner.specs.declared.Waveform.TheVariants.{Triangle, RampDown, RampUp, Square, Sine, SAndH}
use Rattle.lfo_inner.specs.declared.Lfo.{Lfo}
use Rattle.lfo_inner.specs.declared.Motion.{Motion}

-- the waves by their numbers; a number that is no wave's is a triangle's
unfoldable pub waveform_of : ℕ → Waveform
waveform_of n = get_or (Triangle ∷ RampDown ∷ RampUp ∷ Square ∷ Sine ∷ SAndH ∷ []) n Triangle

-- an LFO at rest; it stands still, at the frequency 0, until a patch sets one
unfoldable pub fresh_lfo : Float → Float → Lfo
fresh_lfo one_hz increment = record {
  phase = decimal 0 0;
  frequency = decimal 0 0;
  delay_phase = decimal 0 0;
  delay_increment = increment ∷ increment ∷ [];
  value = decimal 0 0;
  random_value = decimal 0 0;
  one_hz = one_hz;
  amp_mod_depth = decimal 0 0;
  pitch_mod_depth = decimal 0 0;
  waveform = Triangle;
  reset_phase = false;
  phase_integral = pos 0;
}

-- set to a patch's numbers: its frequency and its delay's increments per sample, its wave, and its depths from 0 to 1,
-- the pitch's by its sensitivity. The delay has an increment for each half of its phase: in the first the modulation is
-- not heard, in the second it fades in
unfoldable pub adjusted : Lfo → ModulationParameters → Lfo
adjusted lfo m = record {
  phase = lfo.phase;
  frequency = lfo_frequency m.rate ⊗ lfo.one_hz;
  delay_phase = lfo.delay_phase;
  delay_increment =
      ((lfo_delay m.delay).first ⊗ lfo.one_hz) ∷ ((lfo_delay m.delay).second ⊗ lfo.one_hz) ∷ [];
  value = lfo.value;
  random_value = lfo.random_value;
  one_hz = lfo.one_hz;
  amp_mod_depth = as_float m.amp_mod_depth ⊗ decimal 1 2;
  pitch_mod_depth =
      as_float m.pitch_mod_depth ⊗ decimal 1 2 ⊗ pitch_mod_sensitivity_of m.pitch_mod_sensitivity;
  waveform = waveform_of m.waveform;
  reset_phase = not (eqb m.reset_phase 0);
  phase_integral = lfo.phase_integral;
}

-- the same LFO with another phase, delay, stored value, last draw and whole part of its last scrub: what every move is
-- said by
abbrev pub rebuilt : Lfo → Float → Float → Float → Float → ℤ → Lfo
rebuilt lfo phase delay value last whole = record {
  phase = phase;
  frequency = lfo.frequency;
  delay_phase = delay;
  delay_increment = lfo.delay_increment;
  value = value;
  random_value = last;
  one_hz = lfo.one_hz;
  amp_mod_depth = lfo.amp_mod_depth;
  pitch_mod_depth = lfo.pitch_mod_depth;
  waveform = lfo.waveform;
  reset_phase = lfo.reset_phase;
  phase_integral = whole;
}

-- the LFO with another phase, last draw, delay and whole part of its last scrub
unfoldable pub moved_to : Lfo → Float → Float → Float → ℤ → Lfo
moved_to lfo phase last delay whole = rebuilt lfo phase delay lfo.value last whole

-- the LFO with another stored value
unfoldable pub valued : Lfo → Float → Lfo
valued lfo value =
    rebuilt lfo lfo.phase lfo.delay_phase value lfo.random_value lfo.phase_integral

-- a reset starts the phase anew if the patch asked for it, and the delay always
unfoldable pub restarted : Lfo → Lfo
restarted lfo =
    let phase = cond lfo.reset_phase (decimal 0 0) lfo.phase in
    moved_to lfo phase lfo.random_value (decimal 0 0) lfo.phase_integral

-- ---- the waves

unfoldable pub triangle_wave : Float → Float
triangle_wave phase = decimal 2 0 ⊗ cond (lt phase (decimal 5 1)) (decimal 5 1 ⊖ phase) (phase ⊖ decimal 5 1)

unfoldable pub square_wave : Float → Float
square_wave phase = cond (lt phase (decimal 5 1)) (decimal 0 0) (decimal 1 0)

unfoldable pub sine_wave : List Float → Float → Float
sine_wave lut phase = decimal 5 1 ⊕ decimal 5 1 ⊗ sine_of lut (phase ⊕ decimal 5 1)

-- the six waves, at a phase and with the last draw
unfoldable pub wave_of : List Float → Waveform → Float → Float → Float
wave_of lut Triangle phase last = triangle_wave phase
wave_of lut RampDown phase last = decimal 1 0 ⊖ phase
wave_of lut RampUp phase last = phase
wave_of lut Square phase last = square_wave phase
wave_of lut Sine phase last = sine_wave lut phase
wave_of lut SAndH phase last = last

-- the wave where an LFO stands
abbrev pub wave_at : List Float → Lfo → Float
wave_at lut lfo = wave_of lut lfo.waveform lfo.phase lfo.random_value

-- ---- the draw and the delay

-- a draw, or the last one again with the generator's number as it is
unfoldable pub drawn_if : Bool → Float → ℕ → Drawn
drawn_if draws last state = cond draws (draw state) (record { state = state; value = last })

-- 1 from 1 on
unfoldable pub at_most_one : Float → Float
at_most_one x = cond (le (decimal 1 0) x) (decimal 1 0) x

-- below a half the delay grows by its first increment, from there by its second
unfoldable pub delay_stepped : Float → Float → Float → Float → Float
delay_stepped delay first second scale = at_most_one (delay ⊕ scale ⊗ cond (lt delay (decimal 5 1)) first second)

-- past a half, the samples beyond it count by the second increment
unfoldable pub delay_scrubbed : Float → Float → Float → Float
delay_scrubbed first second sample =
    cond (lt (decimal 5 1) (sample ⊗ first))
    (at_most_one (decimal 5 1 ⊕ (sample ⊖ decimal 5 1 ⊘ first) ⊗ second))
    (sample ⊗ first)

abbrev pub first_of : Lfo → Float
first_of lfo = get_or lfo.delay_increment 0 nan

abbrev pub second_of : Lfo → Float
second_of lfo = get_or lfo.delay_increment 1 nan

-- ---- a step and a scrub

-- from 1 on, 1 is subtracted, once: enough for an accepted step, which is shorter than a turn
unfoldable pub wrapped : Float → Float
wrapped phase = cond (le (decimal 1 0) phase) (phase ⊖ decimal 1 0) phase

-- a step draws when its phase reaches 1, so once a turn
unfoldable pub stepped : Lfo → ℕ → Float → Motion
stepped lfo state scale =
    let phase = lfo.phase ⊕ scale ⊗ lfo.frequency in
    let drawn = drawn_if (le (decimal 1 0) phase) lfo.random_value state in
    let delay = delay_stepped lfo.delay_phase (first_of lfo) (second_of lfo) scale in
    record {
      lfo = moved_to lfo (wrapped phase) drawn.value delay lfo.phase_integral;
      state = drawn.state;
    }

-- whether two whole parts differ
unfoldable pub whole_changed : ℤ → ℤ → Bool
whole_changed (pos a) (pos b) = not (eqb a b)
whole_changed (pos a) (negsuc b) = true
whole_changed (negsuc a) (pos b) = true
whole_changed (negsuc a) (negsuc b) = not (eqb a b)

-- a scrub draws when its phase's whole part, its number of turns, is not the last scrub's
unfoldable pub scrubbed : Lfo → ℕ → Float → Motion
scrubbed lfo state sample =
    let phase = sample ⊗ lfo.frequency in
    let whole = to_signed 31 phase in
    let drawn = drawn_if (whole_changed whole lfo.phase_integral) lfo.random_value state in
    let delay = delay_scrubbed (first_of lfo) (second_of lfo) sample in
    record { lfo = moved_to lfo (phase ⊖ of_int binary32 whole) drawn.value delay whole; state = drawn.state }

-- a value is stored where a motion ends
abbrev pub storing : Motion → Float → Motion
storing there value = record { lfo = valued there.lfo value; state = there.state }

-- both store the wave's
unfoldable pub settled : List Float → Motion → Motion
settled lut there = storing there (wave_at lut there.lfo)

-- ---- the readers

-- how far the modulation has faded in: not at all in the delay's first half
unfoldable pub ramp_of : Float → Float
ramp_of delay = cond (lt delay (decimal 5 1)) (decimal 0 0) ((delay ⊖ decimal 5 1) ⊗ decimal 2 0)

unfoldable pub pitch_mod_of : Lfo → Float
pitch_mod_of lfo = (lfo.value ⊖ decimal 5 1) ⊗ ramp_of lfo.delay_phase ⊗ lfo.pitch_mod_depth

unfoldable pub amp_mod_of : Lfo → Float
amp_mod_of lfo = (decimal 1 0 ⊖ lfo.value) ⊗ ramp_of lfo.delay_phase ⊗ lfo.amp_mod_depth
