-- What every entry of the sine table is, and every lookup in it: finite and between -1 and 1. Definitions only, all to
-- be believed.
use Rattle.std.specs.Prelude.{Bool, ◌&&◌, Float}
use Rattle.std.specs.Float.Ieee.{le}
use Rattle.numbers.specs.F32.{decimal, minus_decimal}

-- finite and from -1 to 1: a NaN or an infinity is not
unfoldable pub within : Float → Bool
within x = le (minus_decimal 1 0) x && le x (decimal 1 0)
