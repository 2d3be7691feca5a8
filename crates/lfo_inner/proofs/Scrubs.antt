-- What a scrub gives, from what its calls ensure, over plain variables. Assumes nothing.
use mathlib.Core.Path.{◌≡◌}
use mathlib.Core.Bool.{Bool}
use Prim.Native.Nat.{ℕ}
use lib.IntN.{ℤ}
use lib.Ieee.{Float, binary32, of_int, to_signed}
use Rattle.numbers.specs.F32.{◌⊖◌, ◌⊗◌}
use Rattle.random.specs.declared.Drawn.{Drawn}
use Rattle.lfo_inner.specs.declared.Lfo.{Lfo}
use Rattle.lfo_inner.specs.declared.Motion.{Motion}
use Rattle.lfo_inner.specs.Lfo.{rebuilt, moved_to, drawn_if, delay_scrubbed, first_of, second_of, whole_changed}
use Rattle.lfo_inner.specs.Lfo.{scrubbed}

-- the LFO with another whole part, as a store to that field leaves it
abbrev pub whole_stored : Lfo → ℤ → Lfo
whole_stored lfo whole = rebuilt lfo lfo.phase lfo.delay_phase lfo.value lfo.random_value whole

-- the whole part n stands at two places, each read back from its bits
pub scrubbed_from : (lfo : Lfo) (state : ℕ) (sample : Float) {n u k : ℤ} {z t : Float} {b : Bool} {d : Drawn} {l : Lfo}
    → n ≡ to_signed 31 (sample ⊗ lfo.frequency) → u ≡ n → k ≡ n → z ≡ of_int binary32 u
    → b ≡ whole_changed n lfo.phase_integral
    → d ≡ drawn_if b lfo.random_value state → t ≡ delay_scrubbed (first_of lfo) (second_of lfo) sample
    → l ≡ moved_to lfo (sample ⊗ lfo.frequency ⊖ z) d.value t lfo.phase_integral
    → ◌≡◌ {A = Motion} (record { lfo = whole_stored l k; state = d.state }) (scrubbed lfo state sample)
unfolding scrubbed moved_to
scrubbed_from lfo state sample en eu ek ez eb ed et el = simp (el, ed, eb, et, ez, eu, ek, en)
