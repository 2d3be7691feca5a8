-- The sine by lookup, one rounding per written operation, in the Rust's order. Definitions only, to be believed, but
-- for `near_by` and what speaks of pairs: these are a way of computing the same.
use Rattle.std.specs.Prelude.{Bool, ◌&&◌, List, ℕ, ◌+◌, ◌*◌, ◌/◌, ◌^◌, get_or, Float}
use Rattle.std.specs.Float.{nan}
use Rattle.std.specs.Float.Ieee.{to_unsigned, le}
use Rattle.numbers.specs.F32.{◌⊕◌, ◌⊖◌, ◌⊗◌, ◌⊘◌, decimal, minus_decimal, as_float}
use Rattle.numbers.specs.Words.{sum32, product32, shifted32}
use Rattle.utils.specs.Interpolate.{interpolated_wrap}

-- the sine at a phase in turns: the table has 512 places to the turn
unfoldable pub sine_of : List Float → Float → Float
sine_of lut phase = interpolated_wrap lut phase (decimal 512 0)

-- a modulation in turns, lifted by 32 and cut to 32 bits in steps of 1 / 2 ^ 26
unfoldable pub steps_of : Float → ℕ
steps_of pm = to_unsigned 32 ((pm ⊕ decimal 32 0) ⊗ (decimal 4294967296 0 ⊘ decimal 64 0))

-- from -31 to 30 turns: there the steps are whole with no cutting
unfoldable pub near_by : Float → Bool
near_by pm = le (minus_decimal 31 0) pm && le pm (decimal 30 0)

-- a phase of 32 bits plus a modulation, wrapped: a step is 64 of the phase's
unfoldable pub modulated : ℕ → Float → ℕ
modulated phase pm = sum32 phase (product32 (steps_of pm) 64)

-- the straight line between two entries of the table: a phase's highest nine bits name the first, the others say how
-- far on
unfoldable pub entry_line : List Float → ℕ → Float
entry_line lut phase =
    let a = get_or lut (phase / 2 ^ 23) nan in
    let b = get_or lut (phase / 2 ^ 23 + 1) nan in
    a ⊕ (b ⊖ a) ⊗ (as_float (shifted32 phase 9) ⊘ decimal 4294967296 0)

-- the same line from a table of pairs, an entry and the way to the next: over the pairs of a table it is that table's
-- `entry_line` (`pairs_line`)
unfoldable pub phase_line : List Float → ℕ → Float
phase_line pairs phase =
    let a = get_or pairs (2 * (phase / 2 ^ 23)) nan in
    let way = get_or pairs (2 * (phase / 2 ^ 23) + 1) nan in
    a ⊕ way ⊗ (as_float (shifted32 phase 9) ⊘ decimal 4294967296 0)

-- the sine at a phase of 32 bits with a modulation, by a table of pairs
unfoldable pub sine_pm : List Float → ℕ → Float → Float
sine_pm pairs phase pm = phase_line pairs (modulated phase pm)
