-- The ratio that a number of semitones makes, one rounding per written operation, in the Rust's order. Definitions
-- only, all to be believed.
use Rattle.std.specs.Prelude.{Bool, ◌&&◌, cond, List, ℕ, get_or, Float}
use Rattle.std.specs.Float.{nan}
use Rattle.std.specs.Float.Ieee.{lt, le, to_unsigned}
use Rattle.numbers.specs.F32.{◌⊕◌, ◌⊖◌, ◌⊗◌, ◌⊘◌, decimal, minus_decimal, as_float}
use Rattle.units.specs.declared.Shifted.{Shifted}

-- from -n to n
unfoldable pub within : ℕ → Float → Bool
within n s = le (minus_decimal n 0) s && le s (decimal n 0)

-- a pitch without its whole part
abbrev pub past_whole : Float → Float
past_whole pitch = pitch ⊖ as_float (to_unsigned 64 pitch)

-- at a pitch, semitones plus 128: the entry of its whole part times the entry of 256 times the rest
unfoldable pub ratio_in : List Float → List Float → Float → Float
ratio_in high low s =
    let pitch = s ⊕ decimal 128 0 in
    get_or high (to_unsigned 64 pitch) nan ⊗ get_or low (to_unsigned 64 (past_whole pitch ⊗ decimal 256 0)) nan

-- above 120 semitones: 120 less, and 1,024 times the scale, which starts at 1
unfoldable pub lowered : Float → Shifted
lowered s =
    cond (lt (decimal 120 0) s) (record { semitones = s ⊖ decimal 120 0; scale = decimal 1 0 ⊗ decimal 1024 0 })
    (record { semitones = s; scale = decimal 1 0 })

-- below -120 semitones: 120 more, and the 1,024th part of the scale
unfoldable pub raised : Shifted → Shifted
raised x =
    cond (lt x.semitones (minus_decimal 120 0))
    (record { semitones = x.semitones ⊕ decimal 120 0; scale = x.scale ⊗ (decimal 1 0 ⊘ decimal 1024 0) }) x

-- the ratio: 1 for a NaN and outside -240 to 240
unfoldable pub ratio_of : List Float → List Float → Float → Float
ratio_of high low s =
    let x = raised (lowered s) in
    cond (within 240 s) (x.scale ⊗ ratio_in high low x.semitones) (decimal 1 0)
