-- Whole numbers at 32 bits, as Rust's wrapping operations have them. Definitions only, all to be believed.
-- `of_z w32` is a signed number's 32 bits, in two's complement, and `to_z w32` the signed number of 32 bits.
use Rattle.std.specs.Prelude.{ℕ, ◌+◌, ◌-◌, ◌*◌, ◌%◌, ◌^◌, ℤ}
use Rattle.std.specs.Int.{w32}
use Rattle.std.proofs.Common.{of_z, to_z}

-- the lowest 32 bits of a + b
abbrev pub sum32 : ℕ → ℕ → ℕ
sum32 a b = (a + b) % 2 ^ 32

-- of a - b: 2 ^ 32 is added first, so that nothing is lost
abbrev pub difference32 : ℕ → ℕ → ℕ
difference32 a b = (a + 2 ^ 32 - b) % 2 ^ 32

-- of a * b
abbrev pub product32 : ℕ → ℕ → ℕ
product32 a b = (a * b) % 2 ^ 32

-- of a shifted to the left, by n modulo 32 places
abbrev pub shifted32 : ℕ → ℕ → ℕ
shifted32 a n = (a * 2 ^ (n % 32)) % 2 ^ 32

-- the same sum and difference of signed numbers, by their bits
unfoldable pub sum_signed : ℤ → ℤ → ℤ
sum_signed a b = to_z w32 (sum32 (of_z w32 a) (of_z w32 b))

unfoldable pub difference_signed : ℤ → ℤ → ℤ
difference_signed a b = to_z w32 (difference32 (of_z w32 a) (of_z w32 b))
