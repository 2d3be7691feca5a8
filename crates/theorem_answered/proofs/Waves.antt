-- The six waves of an LFO are from 0 to 1 at every phase from 0 up to 1, and so is a draw. Assumes nothing.
use mathlib.Core.Path.{◌≡◌, refl}
use mathlib.Core.Bool.{Bool, true, false, cond}
use Prim.Native.Nat.{ℕ}
use native.Mathlib.Omega.{arith}
use lib.IntN.{pos}
use lib.Ieee.{Float, lt}
use Rattle.numbers.specs.F32.{◌⊖◌, ◌⊗◌, decimal}
use Rattle.random.specs.Random.{next_number, draw}
use Rattle.sine.specs.Table.{lut_sine}
use Rattle.lfo_inner.specs.declared.Waveform.{Waveform}
use Rattle.lfo_inner.specs.declared.Waveform.TheVariants.{Triangle, RampDown, RampUp, Square, Sine, SAndH}
use Rattle.lfo_inner.specs.Lfo.{triangle_wave, square_wave, sine_wave, wave_of, drawn_if}
use Rattle.lfo.proofs.Phases.{Part}
use Rattle.numbers.proofs.Sizes.{Share, share, word_share}
use Rattle.theorem_answered.proofs.Shares.{one_less, twice_past_half, twice_to_half, half_lifted}
use Rattle.theorem_answered.proofs.Turns.{part_share, sine_small}

pub zero_share : Share (decimal 0 0)
unfolding decimal
zero_share = share 0 (pos 0) (omega arith)

pub one_share : Share (decimal 1 0)
unfolding decimal
one_share = share 1 (pos 0) (omega arith)

-- ---- the waves

triangle_share : (x : Float) → Share x → Share (triangle_wave x)
unfolding triangle_wave decimal
triangle_share x p = go (lt x (decimal 5 1)) refl
  where
    go : (b : Bool) → lt x (decimal 5 1) ≡ b → Share (decimal 2 0 ⊗ cond b (decimal 5 1 ⊖ x) (x ⊖ decimal 5 1))
    go true l = twice_to_half x p l
    go false l = (twice_past_half x p l).1

square_share : (x : Float) → Share (square_wave x)
unfolding square_wave
square_share x = go (lt x (decimal 5 1))
  where
    go : (b : Bool) → Share (cond b (decimal 0 0) (decimal 1 0))
    go true = zero_share
    go false = one_share

sine_share : (x : Float) → Part x → Share (sine_wave lut_sine x)
unfolding sine_wave decimal
sine_share x p = half_lifted _ (sine_small x p)

pub down_share : (x : Float) → Share x → Share (decimal 1 0 ⊖ x)
unfolding decimal
down_share x p = one_less x p

pub wave_share : (w : Waveform) (phase last : Float) → Part phase → Share last → Share (wave_of lut_sine w phase last)
unfolding wave_of
wave_share Triangle phase last p q = triangle_share phase (part_share phase p)
wave_share RampDown phase last p q = down_share phase (part_share phase p)
wave_share RampUp phase last p q = part_share phase p
wave_share Square phase last p q = square_share phase
wave_share Sine phase last p q = sine_share phase p
wave_share SAndH phase last p q = q

-- ---- the draw

draw_share : (state : ℕ) → Share (draw state).value
unfolding draw next_number
draw_share state = word_share (next_number state) (omega arith)

pub drawn_share : (b : Bool) (last : Float) (state : ℕ) → Share last → Share (drawn_if b last state).value
unfolding drawn_if
drawn_share true last state q = draw_share state
drawn_share false last state q = q
