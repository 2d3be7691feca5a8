-- What the casts return, by the form of the float. Assumes nothing.
use Rattle.std.proofs.Common.{◌≡◌, ℕ, zero, suc, ◌+◌, ◌-◌, ◌*◌, ◌/◌, ◌%◌, ◌^◌, ◌<◌, ◌≤◌, min, Bool, true, false, not}
use Rattle.std.proofs.Common.{◌&&◌, ◌||◌, T, eqb, ltb, leb, ℤ, pos, negsuc, neg_ℤ, sym, refl, subst}
use Rattle.std.proofs.Common.{lt_of_lt_of_le, le_of_lt, lt_irrefl, mul-le-mul_right, mul_comm, div-lt_iff_lt-mul}
use Rattle.std.proofs.Common.{mul-le-mul, one-mul, pow-suc, le-div_iff_mul-le, mul-one, arith, le→leb, ltb→lt}
use Rattle.std.proofs.Common.{lt→ltb, pow_pos, pow_mono, ltb-false, eq-eqb}
use mathlib.Core.Bool.{beq}
use native.Mathlib.Nat.{div-le_of_le-mul}
use native.Mathlib.Nat.{mod-one}
use lib.Ieee.Fits.{down_pos, and_l, and_r, and_i, eq→eqb, fits_widens}
use lib.Ieee.{Float, nan, inf, fin, binary32, binary64, up, down, lt, le, eq, ne, fits, to_unsigned, to_signed}
use lib.Ieee.{in_unsigned, whole, is_nan}
use Rattle.std.specs.Float.{float_with_sign}
use Rattle.numbers.specs.Extremes.{magnitude}
use Rattle.numbers.proofs.Views.{no, on, AtLeast, ge_inf, ge_fin, NotAtLeast, nge_nan, nge_inf, nge_neg}
use Rattle.numbers.proofs.Views.{nge_fin, Under, lt_inf, lt_neg, lt_fin, NotUnder, nlt_nan, nlt_inf, nlt_fin}
use Rattle.numbers.proofs.Views.{AtLeastNeg, gen_inf, gen_fin, gen_neg, NotAtLeastNeg, ngen_neg, NotAboveNeg}
use Rattle.numbers.proofs.Views.{ngt_nan, ngt_inf, ngt_neg}

-- an f32 of 2 ^ 23 or more has no fraction
pub no_fraction : (m k : ℕ) → m < 2 ^ 24 → 2 ^ 23 * 2 ^ suc k ≤ m * 1 → ⊥
no_fraction m k h g =
    let p : 2 ^ suc k ≡ 2 ^ k * 2 = pow-suc 2 k in
    let q = pow_pos k in
    omega arith

pub digits_lt : (m : ℕ) (e : ℤ) → T (fits binary32 (fin false m e)) → m < 2 ^ 24
unfolding fits
digits_lt zero e f = omega arith
digits_lt (suc m) e f =
    let a = eqb (suc m % 2) 1 in
    let b = ltb (suc m) (2 ^ 24) in
    let c = leb (down e) (2 ^ 149) in
    let d = ltb (suc m * up e) (2 ^ 128 * down e) in
    ltb→lt (suc m) (2 ^ 24) (and_r a b (and_l (a && b) c (and_l (a && b && c) d f)))

pub fast_in : (x : Float) → T (fits binary32 x) → AtLeast 23 x → Under 32 x → T (in_unsigned binary64 32 x)
unfolding in_unsigned whole
fast_in _ f ge_inf u = elim u [ ]
fast_in _ f (ge_fin m (negsuc k) g) u = absurd (no_fraction m k (digits_lt m (negsuc k) f) g)
fast_in _ f (ge_fin m (pos k) g) (lt_fin _ _ l) =
    let n : ℕ = m * 2 ^ k in
    let h : n / 1 < 2 ^ 32 = omega arith in
    and_i (eqb (n % 1) 0 && leb (n / 1) (2 ^ 53) && true) (true && ltb (n / 1) (2 ^ 32))
    (and_i (eqb (n % 1) 0 && leb (n / 1) (2 ^ 53)) true
    (and_i (eqb (n % 1) 0) (leb (n / 1) (2 ^ 53)) (eq→eqb (mod-one n)) (le→leb (n / 1) (2 ^ 53) (omega arith))) tt)
    (lt→ltb (n / 1) (2 ^ 32) h)

pub at_least_no_nan : (j : ℕ) (x : Float) → AtLeast j x → is_nan x ≡ false
unfolding is_nan
at_least_no_nan j _ ge_inf = refl
at_least_no_nan j _ (ge_fin m e g) = refl

-- the whole part is below 2 ^ j, or 2 ^ j at least
pub whole_lt : (j m : ℕ) (e : ℤ) → m * up e < 2 ^ j * down e → m * up e / down e < 2 ^ j
whole_lt j m e h = (div-lt_iff_lt-mul (down_pos e)).1 h

pub whole_ge : (j m : ℕ) (e : ℤ) → 2 ^ j * down e ≤ m * up e → 2 ^ j ≤ m * up e / down e
whole_ge j m e h = (le-div_iff_mul-le (down_pos e)).1 h

pub too_large : (w : ℕ) (x : Float) → NotUnder w x → is_nan x ≡ false → to_unsigned w x ≡ 2 ^ w - 1
unfolding to_unsigned is_nan
too_large w _ nlt_nan n = on n
too_large w _ nlt_inf n = refl
too_large w _ (nlt_fin m e g) n = let h = whole_ge w m e g in omega arith

-- below 2 ^ j every wider cast is the same
pub narrows : (j w v : ℕ) (x : Float) → 2 ^ j ≤ 2 ^ w - 1 → 2 ^ j ≤ 2 ^ v - 1 → NotAtLeast j x
    → to_unsigned w x ≡ to_unsigned v x
unfolding to_unsigned
narrows j w v _ p q nge_nan = refl
narrows j w v _ p q nge_inf = refl
narrows j w v _ p q (nge_neg m e) = refl
narrows j w v _ p q (nge_fin m e g) = let h = whole_lt j m e g in omega arith

pub negative : (w j : ℕ) (x : Float) → NotAboveNeg j x → to_unsigned w x ≡ 0
unfolding to_unsigned
negative w j _ ngt_nan = refl
negative w j _ ngt_inf = refl
negative w j _ (ngt_neg m e) = refl

pub small_enough : (j k : ℕ) (x : Float) → 2 ^ j ≤ 2 ^ k → NotAtLeast j x → lt (fin true 1 (pos 0)) x ≡ true
    → T (lt x (fin false 1 (pos k)))
unfolding lt
small_enough j k _ p nge_nan a = no a
small_enough j k _ p nge_inf a = no a
small_enough j k _ p (nge_neg m e) a =
    lt→ltb 0 (m * up e * 1 + 1 * 2 ^ k * down e) (let z = mul-le-mul (pow_pos k) (down_pos e) in omega arith)
small_enough j k _ p (nge_fin m e g) a =
    lt→ltb (m * up e * 1) (1 * 2 ^ k * down e)
    (let z = mul-le-mul_right (down e) p in rw (one-mul, mul-one) (omega arith))

-- what `x as f64` asks
pub widens : (x : Float) → T (fits binary32 x) → is_nan x ≡ false → T (fits binary64 x && not (is_nan x))
widens x f n = and_i (fits binary64 x) (not (is_nan x)) (fits_widens x f) (subst (λ (b : Bool). T (not b)) (sym n) tt)

beq_self : (s : Bool) → beq s s ≡ true
beq_self true = refl
beq_self false = refl

eqb_self : (n : ℕ) → eqb n n ≡ true
eqb_self n = eq-eqb n n refl

-- a float differs from itself where it is a NaN
pub ne_self : (x : Float) → ne x x ≡ is_nan x
unfolding ne eq is_nan
ne_self nan = refl
ne_self (inf s) = simp beq_self
ne_self (fin s m e) = simp (beq_self, eqb_self)

-- ---- signed

neg_min : (a b c : ℕ) → a ≤ b → a ≤ c → neg_ℤ (pos (min a b)) ≡ neg_ℤ (pos (min a c))
neg_min a b c h k = let z : min a b ≡ min a c = omega arith in rw z

pos_min : (a b c : ℕ) → a ≤ b → a ≤ c → pos (min a b) ≡ pos (min a c)
pos_min a b c h k = let z : min a b ≡ min a c = omega arith in rw z

pub whole_le : (j m : ℕ) (e : ℤ) → m * up e ≤ 2 ^ j * down e → m * up e / down e ≤ 2 ^ j
whole_le j m e h = div-le_of_le-mul (down e) (subst (λ (n : ℕ). m * up e ≤ n) (mul_comm (2 ^ j) (down e)) h)

pub narrows_signed : (j v : ℕ) (x : Float) → j ≤ v → Under j x → AtLeastNeg j x → to_signed v x ≡ to_signed j x
unfolding to_signed
narrows_signed j v _ p lt_inf g = elim g [ ]
narrows_signed j v _ p (lt_neg m e) (gen_neg _ _ g) =
    neg_min (m * up e / down e) (2 ^ v) (2 ^ j) (let h =
    whole_le j m e g in let q = pow_mono p in omega arith) (whole_le j m e g)
narrows_signed j v _ p (lt_fin m e g) (gen_fin _ _) =
    pos_min (m * up e / down e) (2 ^ v - 1) (2 ^ j - 1) (let h =
    whole_lt j m e g in let q = pow_mono p in omega arith) (let h = whole_lt j m e g in omega arith)

pub too_low : (j : ℕ) (x : Float) → Under j x → NotAtLeastNeg j x → to_signed j x ≡ neg_ℤ (pos (2 ^ j))
unfolding to_signed
too_low j _ lt_inf n = refl
too_low j _ (lt_neg m e) (ngen_neg _ _ g) =
    let h = (le-div_iff_mul-le (down_pos e)).1 (le_of_lt g) in
    let z : min (m * up e / down e) (2 ^ j) ≡ 2 ^ j = omega arith in
    rw z
too_low j _ (lt_fin m e _) n = elim n [ ]

pub too_high : (j : ℕ) (x : Float) → AtLeast j x → to_signed j x ≡ pos (2 ^ j - 1)
unfolding to_signed
too_high j _ ge_inf = refl
too_high j _ (ge_fin m e g) =
    let h = whole_ge j m e g in
    let z : min (m * up e / down e) (2 ^ j - 1) ≡ 2 ^ j - 1 = omega arith in
    rw z

-- neither below 2 ^ j nor at least: a NaN
pub neither_unsigned : (w j : ℕ) (x : Float) → NotUnder j x → NotAtLeast j x → to_unsigned w x ≡ 0
unfolding to_unsigned
neither_unsigned w j _ nlt_nan n = refl
neither_unsigned w j _ nlt_inf n = elim n [ ]
neither_unsigned w j _ (nlt_fin m e g) (nge_fin _ _ h) = absurd (lt_irrefl _ (lt_of_lt_of_le h g))

pub neither : (j : ℕ) (x : Float) → NotUnder j x → NotAtLeast j x → to_signed j x ≡ pos 0
unfolding to_signed
neither j _ nlt_nan n = refl
neither j _ nlt_inf n = elim n [ ]
neither j _ (nlt_fin m e g) (nge_fin _ _ h) = absurd (lt_irrefl _ (lt_of_lt_of_le h g))

pub or_i : (a b : Bool) → T a → T (a || b)
or_i true b t = tt
or_i false b t = absurd t

-- a ≤ b as a comparison of floats tests it, either way round
pub le_or : (a b : ℕ) → a ≤ b → T (ltb a b || (eqb a b && true))
le_or a b h = go (ltb a b) refl
  where
    go : (p : Bool) → ltb a b ≡ p → T (p || (eqb a b && true))
    go true l = tt
    go false l = and_i (eqb a b) true (let z = ltb-false a b l in let q : a ≡ b = omega arith in eq→eqb q) tt

pub ge_or : (a b : ℕ) → b ≤ a → T (ltb b a || (eqb a b && true))
ge_or a b h = go (ltb b a) refl
  where
    go : (p : Bool) → ltb b a ≡ p → T (p || (eqb a b && true))
    go true l = tt
    go false l = and_i (eqb a b) true (let z = ltb-false b a l in let q : a ≡ b = omega arith in eq→eqb q) tt

-- the call's own range is wider
pub low_wider : (j k : ℕ) (x : Float) → 2 ^ j ≤ 2 ^ k → AtLeastNeg j x → T (le (fin true 1 (pos k)) x)
unfolding le lt eq
low_wider j k _ p gen_inf = tt
low_wider j k _ p (gen_fin m e) =
    or_i (ltb 0 (1 * 2 ^ k * down e + m * up e * 1))
    (eqb (1 * 2 ^ k * down e) (m * up e * 1) && eqb (1 * 2 ^ k * down e) 0)
    (lt→ltb 0 (1 * 2 ^ k * down e + m * up e * 1) (let z = mul-le-mul (pow_pos k) (down_pos e) in omega arith))
low_wider j k _ p (gen_neg m e g) =
    ge_or (1 * 2 ^ k * down e) (m * up e * 1) (let z =
    mul-le-mul_right (down e) p in rw (one-mul, mul-one) (omega arith))

pub high_wider : (j k : ℕ) (x : Float) → 2 ^ j ≤ 2 ^ k → Under j x → T (lt x (fin false 1 (pos k)))
unfolding lt
high_wider j k _ p lt_inf = tt
high_wider j k _ p (lt_neg m e) =
    lt→ltb 0 (m * up e * 1 + 1 * 2 ^ k * down e) (let z = mul-le-mul (pow_pos k) (down_pos e) in omega arith)
high_wider j k _ p (lt_fin m e g) =
    lt→ltb (m * up e * 1) (1 * 2 ^ k * down e)
    (let z = mul-le-mul_right (down e) p in rw (one-mul, mul-one) (omega arith))

-- ---- the magnitude

pub without_sign : (x : Float) → float_with_sign false x ≡ magnitude x
unfolding float_with_sign magnitude
without_sign nan = refl
without_sign (inf s) = refl
without_sign (fin s m e) = refl
