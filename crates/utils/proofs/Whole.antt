-- From 2 ^ 24 on an f32 is a whole number: its whole part, as f32, is the float itself. Assumes nothing.
use mathlib.Core.Path.{◌≡◌, refl, sym, ap, ◌∙◌, subst}
use mathlib.Core.Bool.{true, false}
use Prim.Native.Nat.{ℕ, suc, ◌+◌, ◌-◌, ◌*◌, ◌/◌, ◌^◌, ◌≤◌, ◌<◌}
use native.Mathlib.Nat.{mul-one, mul_assoc, mul-lt-mul_of_pos_right, div-le_of_le-mul, mul-le-mul_left, lt_of_lt_of_le}
use native.Mathlib.Omega.{arith}
use lib.Dec.{T}
use lib.IntN.{pos, negsuc}
use lib.Pow.{pow-add, pow_mono, pow_pos}
use lib.Ieee.{Float, nan, inf, fin, binary32, fits, of_int, to_unsigned}
use lib.Ieee.Back.{whole_unique}
use lib.Ieee.Exact.{HasValue, round_exact}
use lib.Ieee.Fits.{of_int-fits}
use Rattle.numbers.proofs.Casts.{digits_lt}

cut_le : (m d : ℕ) → 0 < d → m * 1 / d ≤ m
cut_le m d p = div-le_of_le-mul d (rw mul-one (let q : m * 1 ≤ m * d = mul-le-mul_left m p in omega arith))

-- m * 2 ^ k in units of the smallest f32
scaled : (m k : ℕ) → m * 2 ^ k * 2 ^ 149 ≡ m * 2 ^ (k + 149) * 1
scaled m k =
    mul_assoc m (2 ^ k) (2 ^ 149) ∙ ap (λ (x : ℕ). m * x) (sym (pow-add 2 k 149)) ∙ sym (mul-one (m * 2 ^ (k + 149)))

below : (m k : ℕ) → m * 2 ^ k < 2 ^ 64 → m * 2 ^ (k + 149) < 2 ^ 277
below m k h =
    let p : 2 ^ 64 ≤ 2 ^ 128 = pow_mono {i = 64} {j = 128} (omega arith) in
    subst (λ (x : ℕ). x < 2 ^ 277) (scaled m k ∙ mul-one (m * 2 ^ (k + 149)))
    (mul-lt-mul_of_pos_right (lt_of_lt_of_le h p) (pow_pos 149))

-- a whole number of at most 24 digits, times a power of two, is an f32
pub whole_exact : (m k : ℕ) → m < 2 ^ 24 → m * 2 ^ k < 2 ^ 64
    → HasValue (of_int binary32 (pos (m * 2 ^ k))) false (m * 2 ^ k) 1
unfolding of_int
whole_exact m k a h = round_exact binary32 false (m * 2 ^ k) 1 m (k + 149) (omega arith) a (below m k h) (scaled m k)

pub whole_back : (x : Float) → T (fits binary32 x) → 2 ^ 24 ≤ to_unsigned 64 x → to_unsigned 64 x < 2 ^ 64 - 1
    → x ≡ of_int binary32 (pos (to_unsigned 64 x))
unfolding to_unsigned of_int
whole_back nan f l h = let q : ⊥ = omega arith in absurd q
whole_back (inf true) f l h = let q : ⊥ = omega arith in absurd q
whole_back (inf false) f l h = let q : ⊥ = omega arith in absurd q
whole_back (fin true m e) f l h = let q : ⊥ = omega arith in absurd q
whole_back (fin false m (negsuc k)) f l h =
    let a = digits_lt m (negsuc k) f in
    let b = cut_le m (2 ^ suc k) (pow_pos (suc k)) in
    let q : ⊥ = omega arith in
    absurd q
whole_back (fin false m (pos k)) f l h =
    let n = m * 2 ^ k in
    let a = digits_lt m (pos k) f in
    let e : to_unsigned 64 (fin false m (pos k)) ≡ n = omega arith in
    rw e
    (whole_unique binary32 (fin false m (pos k)) (of_int binary32 (pos n)) false n f (of_int-fits binary32 (pos n)) (refl, refl) (whole_exact m k a (omega arith)))

pub whole_back_at : (x : Float) (i : ℕ) → T (fits binary32 x) → i ≡ to_unsigned 64 x → 2 ^ 24 ≤ i → i < 2 ^ 64 - 1
    → x ≡ of_int binary32 (pos i)
whole_back_at x i f e l h = rw e (whole_back x f (rw e at l) (rw e at h))
