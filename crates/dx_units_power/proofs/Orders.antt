-- What the calls of `pow_2_fast` give, over plain variables. Assumes nothing.
use Rattle.std.proofs.Common.{◌≡◌, ℕ, true, false, ℤ, pos, w32, of_z}
use lib.Ieee.{Float, binary32, lt, of_bits, of_int, to_signed}
use Rattle.numbers.specs.F32.{◌⊕◌, ◌⊖◌, ◌⊗◌, decimal}
use Rattle.numbers.specs.Words.{sum32, shifted32, difference_signed}
use Rattle.dx_units_power.specs.Pow.{is_order, whole_below, mantissa_bits, pow2_fast}

-- a call is handed a signed number m that is n, read back from its bits, and r is read back as s
pub below_zero : (x : Float) {n m r s : ℤ} → lt x (decimal 0 0) ≡ true → n ≡ to_signed 31 x → m ≡ n
    → r ≡ difference_signed m (pos 1) → s ≡ r → s ≡ whole_below x
unfolding whole_below
below_zero x h en em er es = simp (h, es, er, em, en)

pub at_zero_or_above : (x : Float) {n s : ℤ} → lt x (decimal 0 0) ≡ false → n ≡ to_signed 31 x → s ≡ n
    → s ≡ whole_below x
unfolding whole_below
at_zero_or_above x h en es = simp (h, es, en)

pub first_order : (x : Float) (order : ℤ) {n m : ℤ} {b : ℕ} {r : Float} → is_order 1 order ≡ true
    → n ≡ to_signed 31 (decimal 8388608 0 ⊗ (decimal 127 0 ⊕ x))
    → m ≡ n → b ≡ of_z w32 m → r ≡ of_bits binary32 b → r ≡ pow2_fast x order
unfolding pow2_fast
first_order x order h en em eb er = simp (h, er, eb, em, en)

pub other_order : (x : Float) (order : ℤ) {n m o : ℤ} {v r : Float} {p b e s : ℕ} → is_order 1 order ≡ false
    → n ≡ whole_below x → m ≡ n → v ≡ of_int binary32 m → o ≡ order
    → p ≡ mantissa_bits (x ⊖ v) o → b ≡ of_z w32 m → e ≡ shifted32 b 23 → s ≡ sum32 p e → r ≡ of_bits binary32 s
    → r ≡ pow2_fast x order
unfolding pow2_fast
other_order x order h en em ev eo ep eb ee es er = simp (h, er, es, ee, eb, ep, eo, ev, em, en)
