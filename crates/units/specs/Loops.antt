-- The Rust's two loops, from which the ratio's definition follows: where each can stand, and that it ends after at most
-- one turn. Definitions only, all to be believed.
use Rattle.std.specs.Prelude.{◌≡◌, Bool, true, false, ℕ, zero, suc, ◌≤◌, Float}
use Rattle.std.specs.Float.Ieee.{lt}
use Rattle.numbers.specs.F32.{◌⊕◌, ◌⊖◌, ◌⊗◌, ◌⊘◌, decimal, minus_decimal}
use Rattle.units.specs.declared.Shifted.{Shifted}

-- where the loop that began at x can stand after so many turns, any number of them: while t holds of the semitones,
-- they become f of themselves, and the scale g of itself
pub data Stands (t : Float → Bool) (f g : Float → Float) (x : Shifted) : ℕ → Shifted → Type 0 where
  first : Stands t f g x zero x
  next : {n : ℕ} {y : Shifted} → Stands t f g x n y → t y.semitones ≡ true
      → Stands t f g x (suc n) (record { semitones = f y.semitones; scale = g y.scale })

-- the loop that began at x takes one turn at most, and it ends: at y, and nowhere else
pub record EndsOnce (t : Float → Bool) (f g : Float → Float) (x y : Shifted) : Type 0 where
  pub once : (n : ℕ) (z : Shifted) → Stands t f g x n z → n ≤ 1
  pub turns : ℕ
  pub reached : Stands t f g x turns y
  pub over : t y.semitones ≡ false
  pub only : (n : ℕ) (z : Shifted) → Stands t f g x n z → t z.semitones ≡ false → z ≡ y

-- the first loop: while above 120, 120 less and 1,024 times the scale
abbrev pub above : Float → Bool
above s = lt (decimal 120 0) s

abbrev pub down120 : Float → Float
down120 s = s ⊖ decimal 120 0

abbrev pub times1024 : Float → Float
times1024 w = w ⊗ decimal 1024 0

-- the second loop: while below -120, 120 more and the 1,024th part of the scale
abbrev pub below : Float → Bool
below s = lt s (minus_decimal 120 0)

abbrev pub up120 : Float → Float
up120 s = s ⊕ decimal 120 0

abbrev pub over1024 : Float → Float
over1024 w = w ⊗ (decimal 1 0 ⊘ decimal 1024 0)

-- the first loop begun at s and a scale of 1, then the second where that ended: they end at y, after one turn each at
-- most
pub record Looped (s : Float) (y : Shifted) : Type 0 where
  pub between : Shifted
  pub down : EndsOnce above down120 times1024 (record { semitones = s; scale = decimal 1 0 }) between
  pub up : EndsOnce below up120 over1024 between y
