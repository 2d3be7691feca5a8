-- The note that a block plays, in the words of document 02's request f. Definitions only.
use Rattle.std.specs.Prelude.{ℕ, Bool, cond, pos, ◌-ℤ◌, Float}
use Rattle.std.specs.Float.{binary32}
use Rattle.std.specs.Float.Ieee.{of_int}
use Rattle.numbers.specs.F32.{◌⊕◌}

-- the whole number transpose minus 24, as a float
unfoldable pub shift_of : ℕ → Float
shift_of transpose = of_int binary32 (pos transpose -ℤ pos 24)

-- the note that takes the given note's place everywhere in a block: the given one plus the shift, added with one
-- rounding, in a voice that transposes, and the given one itself in any other
unfoldable pub played_note : Bool → ℕ → Float → Float
played_note transposes transpose note = cond transposes (note ⊕ shift_of transpose) note
