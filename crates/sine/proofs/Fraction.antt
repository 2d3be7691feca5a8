-- The part of a phase below its highest nine bits: over 2 ^ 23 as it stands, or shifted up and over 2 ^ 32, it is the
-- same f32. Assumes nothing.
use mathlib.Core.Path.{◌≡◌, sym, ap, ◌∙◌}
use mathlib.Core.Bool.{true, false}
use mathlib.Core.List.{List}
use Prim.Native.Nat.{ℕ, ◌+◌, ◌*◌, ◌-◌, ◌/◌, ◌%◌, ◌^◌}
use native.Mathlib.Nat.{one-mul, mul_assoc, mul_comm, mul-pos}
use native.Mathlib.Omega.{arith}
use lib.IntN.{pos}
use lib.ListN.{get_or}
use lib.Pow.{pow_pos}
use lib.Ieee.{Float, nan, inf, fin, binary32, up, down, round, div, of_int}
use lib.Ieee.Back.{round_whole}
use lib.Ieee.Exact.{HasValue}
use lib.Ieee.Fits.{down_pos}
use lib.Ieee.Scale.{round_same}
use Rattle.numbers.specs.F32.{◌⊕◌, ◌⊗◌, ◌⊘◌, decimal, as_float}
use Rattle.numbers.specs.Words.{shifted32}
use Rattle.numbers.proofs.Views.{on}
use Rattle.utils.proofs.Whole.{whole_exact}
use Rattle.sine.specs.Sine.{phase_line}

-- a whole number over 2 ^ k
over : (x : Float) (a k : ℕ) → HasValue x false a 1
    → div binary32 x (fin false 1 (pos k)) ≡ round binary32 false a (2 ^ k)
unfolding div
over nan a k v = absurd v
over (inf s) a k v = absurd v
over (fin true m e) a k v = on v.0
over (fin false m e) a k v =
    round_same binary32 false (m * up e * 1) (1 * 2 ^ k * down e) a (2 ^ k)
    (mul-pos (mul-pos (omega arith) (pow_pos k)) (down_pos e)) (pow_pos k)
    (ap (λ (n : ℕ). n * 2 ^ k) v.1 ∙ mul_assoc a (down e) (2 ^ k) ∙ ap (λ (n : ℕ). a * n) (mul_comm (down e) (2 ^ k) ∙ ap (λ (n : ℕ). n * down e) (sym (one-mul (2 ^ k)))))

fraction : (p : ℕ) → as_float (p % 8388608) ⊘ decimal 8388608 0 ≡ as_float (shifted32 p 9) ⊘ decimal 4294967296 0
unfolding decimal of_int
fraction p =
    let q = p % 8388608 in
    let e : shifted32 p 9 ≡ q * 2 ^ 9 = omega arith in
    rw e
    (over (as_float q) q 23 (round_whole binary32 false q (omega arith))
    ∙ round_same binary32 false q (2 ^ 23) (q * 2 ^ 9) (2 ^ 32) (pow_pos 23) (pow_pos 32) (omega arith)
    ∙ sym (over (as_float (q * 2 ^ 9)) (q * 2 ^ 9) 32 (whole_exact q 9 (omega arith) (omega arith))))

-- the line, with what the highest nine bits leave of the phase
pub line_is : (pairs : List Float) (p : ℕ) {a way : Float} → a ≡ get_or pairs (2 * (p / 2 ^ 23)) nan
    → way ≡ get_or pairs (2 * (p / 2 ^ 23) + 1) nan
    → a ⊕ way ⊗ (as_float (p - p / 8388608 * 8388608) ⊘ decimal 8388608 0) ≡ phase_line pairs p
unfolding phase_line
line_is pairs p ea ew =
    let e : p - p / 8388608 * 8388608 ≡ p % 8388608 = omega arith in
    simp (ea, ew, e, fraction p)
