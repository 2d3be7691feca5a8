-- Rust's operations on f32, under short names: each rounds once, to the nearest f32. Every crate's definitions use
-- them. Definitions only, all to be believed.
use Rattle.std.specs.Prelude.{ℕ, ◌^◌, true, false, pos, Float}
use Rattle.std.specs.Float.{binary32}
use Rattle.std.specs.Float.Ieee.{add, sub, mul, div, round, of_int}

infixl 6 ◌⊕◌ ◌⊖◌
infixl 7 ◌⊗◌ ◌⊘◌
-- a + b
abbrev pub ◌⊕◌ : Float → Float → Float
a ⊕ b = add binary32 a b

-- a - b
abbrev pub ◌⊖◌ : Float → Float → Float
a ⊖ b = sub binary32 a b

-- a * b
abbrev pub ◌⊗◌ : Float → Float → Float
a ⊗ b = mul binary32 a b

-- a / b
abbrev pub ◌⊘◌ : Float → Float → Float
a ⊘ b = div binary32 a b

-- the f32 nearest n / 10 ^ k, as the source writes it: 0.6565 is `decimal 6565 4`
unfoldable pub decimal : ℕ → ℕ → Float
unfolding round
decimal n k = round binary32 false n (10 ^ k)

-- and its negative: -14.0 is `minus_decimal 14 0`
unfoldable pub minus_decimal : ℕ → ℕ → Float
unfolding round
minus_decimal n k = round binary32 true n (10 ^ k)

-- n as f32, rounded
abbrev pub as_float : ℕ → Float
as_float n = of_int binary32 (pos n)
