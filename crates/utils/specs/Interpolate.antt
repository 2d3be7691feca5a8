-- Lookups in a table of f32, one rounding per written operation, in the Rust's order. Definitions only, all to be
-- believed.
use Rattle.std.specs.Prelude.{cond, List, ◌+◌, ◌-◌, ltb, length, get_or, Float}
use Rattle.std.specs.Float.{nan, binary32}
use Rattle.std.specs.Float.Ieee.{to_unsigned, to_signed, of_int}
use Rattle.numbers.specs.F32.{◌⊕◌, ◌⊖◌, ◌⊗◌, as_float}
use Rattle.numbers.specs.Extremes.{clamped}

-- a table's last entry; a NaN where it has none
abbrev pub last_of : List Float → Float
last_of table = get_or table (length table - 1) nan

-- the straight line between the entry before a place and the next; at the last entry or past it, that entry
unfoldable pub line_at : List Float → Float → Float
line_at table place =
    let i = to_unsigned 64 place in
    let a = get_or table i nan in
    cond (ltb (i + 1) (length table)) (a ⊕ (get_or table (i + 1) nan ⊖ a) ⊗ (place ⊖ as_float i)) (last_of table)

-- at an index clamped to 0 to 1, times the size
unfoldable pub interpolated : List Float → Float → Float → Float
interpolated table index size = line_at table (clamped index ⊗ size)

-- the same at the index without its whole part
unfoldable pub interpolated_wrap : List Float → Float → Float → Float
interpolated_wrap table index size = interpolated table (index ⊖ of_int binary32 (to_signed 31 index)) size
