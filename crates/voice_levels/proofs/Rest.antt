-- The amplitude modulation at rest: every float that equals -1 gives the power of -6.4, which antt computes. Assumes
-- nothing.
use mathlib.Core.Path.{◌≡◌, refl, sym, ◌∙◌, ap}
use mathlib.Core.Bool.{Bool, true, false, ◌&&◌}
use Prim.Native.Nat.{ℕ, ◌*◌, ◌<◌}
use native.Mathlib.Omega.{arith}
use borrow.Author.Tests.{eqb-true}
use lib.Dec.{eqb}
use lib.IntN.{pos, negsuc}
use lib.Ieee.{Float, nan, inf, fin, binary32, eq, lt, neg, add, sub, mul, up, down, of_int, of_bits, to_bits, to_signed}
use lib.Ieee.Fits.{down_pos}
use lib.Ieee.Scale.{round_same}
use Rattle.numbers.specs.F32.{◌⊖◌, ◌⊗◌, decimal, minus_decimal}
use Rattle.numbers.specs.Words.{difference_signed}
use Rattle.numbers.proofs.Views.{no}
use Rattle.dx_units_power.specs.Pow.{whole_below, mantissa_bits, pow2_fast}
use Rattle.voice_levels.specs.Levels.{level_mod_of}

-- equal to -1, by its two tests
equal_one : (a b : ℕ) (t : Bool) → (eqb a b && t) ≡ true → a ≡ b
equal_one a b t h = go (eqb a b) refl h
  where
    go : (p : Bool) → eqb a b ≡ p → (p && t) ≡ true → a ≡ b
    go true e k = eqb-true a b e
    go false e k = no k

-- and no positive number is
no_positive : (a b : ℕ) → 0 < b → (eqb a b && eqb a 0) ≡ true → ⊥
no_positive a b p h = go (eqb a 0) refl
  where
    go : (z : Bool) → eqb a 0 ≡ z → ⊥
    go true z = let e = eqb-true a 0 z in let f = equal_one a b (eqb a 0) h in omega arith
    go false z = no (right (eqb a b) (rw z at h))
      where
        right : (t : Bool) → (t && false) ≡ true → false ≡ true
        right true k = k
        right false k = k

-- 6.4 times it is -6.4
times_rest : (x : Float) → eq x (fin true 1 (pos 0)) ≡ true → decimal 64 1 ⊗ x ≡ decimal 64 1 ⊗ fin true 1 (pos 0)
unfolding eq mul decimal
times_rest nan h = no h
times_rest (inf s) h = no h
times_rest (fin false m e) h =
    absurd (no_positive (m * up e * 1) (1 * 1 * down e) (let z = down_pos e in omega arith) h)
times_rest (fin true m e) h =
    let v = equal_one (m * up e * 1) (1 * 1 * down e) true h in
    round_same binary32 true (13421773 * 1 * (m * up e)) (2097152 * down e) (13421773 * 1 * (1 * 1)) (2097152 * 1)
    (let z = down_pos e in omega arith) (omega arith) (omega arith)

-- the constant, whose bits are 3f7cf702
abbrev resting : Float
resting = fin false 8289153 (negsuc 22)

resting_is : decimal 9881440401 10 ≡ resting
unfolding decimal
resting_is = refl

rest : level_mod_of (fin true 1 (pos 0)) ≡ resting
unfolding decimal add sub neg mul lt of_int of_bits to_bits to_signed difference_signed whole_below mantissa_bits
    pow2_fast
rest = refl

pub level_mod_at_rest : (x : Float) → eq x (minus_decimal 1 0) ≡ true → decimal 9881440401 10 ≡ level_mod_of x
unfolding minus_decimal
level_mod_at_rest x h = resting_is ∙ sym rest
    ∙ ap (λ (y : Float). decimal 1 0 ⊖ pow2_fast y (pos 2)) (sym (times_rest x h))
