-- Rust's f32::min, max, abs and clamp(0.0, 1.0), for every float. Definitions only, all to be believed.
-- A minimum or a maximum with a NaN is the other number: it never hands a NaN on. Of two zeros it is the first.
use Rattle.std.specs.Prelude.{false, cond, is_nan, Float}
use Rattle.std.specs.Float.{nan, inf, fin}
use Rattle.std.specs.Float.Ieee.{lt}
use Rattle.numbers.specs.F32.{decimal}

-- b where a is a NaN or b is less, else a
unfoldable pub minimum : Float → Float → Float
minimum a b = cond (is_nan a) b (cond (lt b a) b a)

-- b where a is a NaN or b is greater, else a
unfoldable pub maximum : Float → Float → Float
maximum a b = cond (is_nan a) b (cond (lt a b) b a)

-- the same number without its sign
unfoldable pub magnitude : Float → Float
magnitude nan = nan
magnitude (inf s) = inf false
magnitude (fin s m e) = fin false m e

-- the nearest number from 0 to 1; a NaN stays one, and so does -0
unfoldable pub clamped : Float → Float
clamped x = cond (lt x (decimal 0 0)) (decimal 0 0) (cond (lt (decimal 1 0) x) (decimal 1 0) x)
