-- `pow_2_fast`: one rounding per written operation, in the Rust's order. Definitions only, all to be believed.
use Rattle.std.specs.Prelude.{ℕ, Bool, false, cond, ℤ, pos, negsuc, ◌==◌, from_bits, to_bits, Float}
use Rattle.std.specs.Float.{binary32}
use Rattle.std.specs.Float.Ieee.{lt, of_int, to_signed}
use Rattle.std.specs.Int.{w32}
use Rattle.std.proofs.Common.{of_z}
use Rattle.numbers.specs.F32.{◌⊕◌, ◌⊖◌, ◌⊗◌, decimal}
use Rattle.numbers.specs.Words.{sum32, shifted32, difference_signed}

abbrev pub is_order : ℕ → ℤ → Bool
is_order k (pos n) = n == k
is_order k (negsuc n) = false

-- x as i32, less 1 where x is negative, wrapped
unfoldable pub whole_below : Float → ℤ
whole_below x = cond (lt x (decimal 0 0)) (difference_signed (to_signed 31 x) (pos 1)) (to_signed 31 x)

-- the bits of the polynomial: order 2 and order 3 have one, other orders have no bits
unfoldable pub mantissa_bits : Float → ℤ → ℕ
mantissa_bits x order =
    cond (is_order 2 order) (to_bits binary32 (decimal 1 0 ⊕ x ⊗ (decimal 6565 4 ⊕ x ⊗ decimal 3435 4)))
    (cond (is_order 3 order)
    (to_bits binary32 (decimal 1 0 ⊕ x ⊗ (decimal 6958 4 ⊕ x ⊗ (decimal 2251 4 ⊕ x ⊗ decimal 791 4)))) 0)

-- 2 to the x. Order 1: the bits are 2 ^ 23 times 127 plus x, as i32: straight lines between the powers of two. Other
-- orders: the polynomial at x less its whole number, which is added to the exponent's field by a sum of bits, wrapped
unfoldable pub pow2_fast : Float → ℤ → Float
pow2_fast x order =
    let whole = whole_below x in
    cond (is_order 1 order) (from_bits binary32 (of_z w32 (to_signed 31 (decimal 8388608 0 ⊗ (decimal 127 0 ⊕ x)))))
    (from_bits binary32 (sum32 (mantissa_bits (x ⊖ of_int binary32 whole) order) (shifted32 (of_z w32 whole) 23)))
