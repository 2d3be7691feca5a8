-- What the tests of `pow_2_fast_1` and `pow_2_fast_2` say of a float, and what its casts and its power of two are
-- there. Assumes nothing.
use Rattle.std.proofs.Common.{◌≡◌, ℕ, zero, suc, ◌+◌, ◌-◌, ◌*◌, ◌/◌, ◌%◌, ◌^◌, ◌<◌, ◌≤◌, min, Bool, true, false, cond}
use Rattle.std.proofs.Common.{not, ◌&&◌, ◌||◌, T, eqb, ltb, ℤ, pos, negsuc, neg_ℤ, sym, refl, ap, ◌∙◌, subst, mul_comm}
use Rattle.std.proofs.Common.{div-lt_iff_lt-mul, add-one, arith, le→leb, lt→ltb, w32, to_z, of_z, ltb-false, ltb-true}
use Rattle.std.proofs.Common.{le-ltb, lt-ltb, eqb-true, mod-lt, pow_pos}
use Prim.Native.Nat.{compare}
use native.Mathlib.Nat.{div-le_of_le-mul}
use borrow.Author.Tests.{eqb-false}
use lib.Ieee.{Float, nan, inf, fin, Format, binary32, low, prec, emax, up, down, size, nearest, lt, le, eq, neg, add}
use lib.Ieee.{sub, odd, units, round, of_int, to_unsigned, to_signed, in_float, of_bits, nan_bits}
use lib.Ieee.Bits.{nan_bits_above}
use lib.Ieee.Fits.{down_pos, round_is}
use Rattle.numbers.specs.F32.{◌⊕◌, ◌⊖◌, ◌⊗◌, decimal, as_float}
use Rattle.numbers.specs.Words.{sum32, difference32, shifted32, difference_signed}
use Rattle.numbers.proofs.Views.{no, on, both, or_le, AtLeast, ge_inf, ge_fin, at_least, Under, lt_fin}
use Rattle.dx_units_power.specs.Pow.{whole_below, mantissa_bits, pow2_fast}

-- ---- order 1: a whole number from 2 ^ 23 to an infinity's pattern

pub data Pattern : Float → Type 0 where
  pattern : (m : ℕ) (e : ℤ) → 2 ^ 23 * down e ≤ m * up e → m * up e ≤ 2139095040 * down e → Pattern (fin false m e)

pub a_pattern : (y : Float) → (le (fin false 1 (pos 23)) y && le y (fin false 255 (pos 23))) ≡ true → Pattern y
unfolding le lt eq
a_pattern y h =
    let p = both (le (fin false 1 (pos 23)) y) (le y (fin false 255 (pos 23))) h in
    go y (at_least 23 y p.0) p.1
  where
    go : (x : Float) → AtLeast 23 x → le x (fin false 255 (pos 23)) ≡ true → Pattern x
    go _ ge_inf k = no k
    go _ (ge_fin m e g) k = pattern m e g (let z = or_le (m * up e * 1) (255 * 2 ^ 23 * down e) true k in omega arith)

pub pattern_whole : (y : Float) → Pattern y → AtLeast 23 y
pattern_whole _ (pattern m e g h) = ge_fin m e g

pub pattern_below : (y : Float) → Pattern y → Under 32 y
pattern_below _ (pattern m e g h) = lt_fin m e (let d = down_pos e in omega arith)

whole_at_most : (c m : ℕ) (e : ℤ) → m * up e ≤ c * down e → m * up e / down e ≤ c
whole_at_most c m e h = div-le_of_le-mul (down e) (subst (λ (n : ℕ). m * up e ≤ n) (mul_comm c (down e)) h)

at_most_pattern : (y : Float) → Pattern y → to_unsigned 32 y ≤ 2139095040
unfolding to_unsigned
at_most_pattern _ (pattern m e g h) = let z = whole_at_most 2139095040 m e h in omega arith

pub no_nan : (y : Float) → Pattern y → T (not (nan_bits binary32 (to_unsigned 32 y)))
no_nan y p =
    let b = to_unsigned 32 y in
    let h : b % 2147483648 ≤ 2139095040 = omega (arith, at_most_pattern y p) in
    subst (λ (t : Bool). T (not t)) (sym (nan_bits_above binary32 b ∙ le-ltb 2139095040 (b % 2147483648) h)) tt

same_cast : (y : Float) → Pattern y → to_signed 31 y ≡ pos (to_unsigned 32 y)
unfolding to_signed to_unsigned
same_cast _ (pattern m e g h) = let z = whole_at_most 2139095040 m e h in ap pos (omega arith)

pub in_one_cast : (x : Float) → Pattern (decimal 8388608 0 ⊗ (decimal 127 0 ⊕ x))
    → of_bits binary32 (to_unsigned 32 (decimal 8388608 0 ⊗ (decimal 127 0 ⊕ x))) ≡ pow2_fast x (pos 1)
unfolding pow2_fast
in_one_cast x p =
    sym (ap (λ (z : ℤ). of_bits binary32 (of_z w32 z)) (same_cast (decimal 8388608 0 ⊗ (decimal 127 0 ⊕ x)) p))

-- ---- order 2, from 0 up to 127. -0 is there too

pub data Rising : Float → Type 0 where
  rises : (m : ℕ) (e : ℤ) → m * up e < 127 * down e → Rising (fin false m e)
  minus_zero : (m : ℕ) (e : ℤ) → m * up e ≡ 0 → Rising (fin true m e)

pub is_rising : (x : Float) → le (fin false 0 (pos 0)) x ≡ true → lt x (fin false 127 (pos 0)) ≡ true → Rising x
unfolding le lt eq
is_rising nan h k = no h
is_rising (inf true) h k = no h
is_rising (inf false) h k = no k
is_rising (fin true m e) h k =
    minus_zero m e
    (let z =
    eqb-true (0 * 1 * down e) (m * up e * 1)
    (both (eqb (0 * 1 * down e) (m * up e * 1)) (eqb (0 * 1 * down e) 0) h).0 in omega arith)
is_rising (fin false m e) h k = rises m e (let z = ltb-true (m * up e * 1) (127 * 1 * down e) k in omega arith)

whole_below_lem : (c m : ℕ) (e : ℤ) → m * up e < c * down e → m * up e / down e < c
whole_below_lem c m e h = (div-lt_iff_lt-mul (down_pos e)).1 h

pub rising_count : (x : Float) → Rising x → to_unsigned 64 x < 127
unfolding to_unsigned
rising_count _ (rises m e h) = let z = whole_below_lem 127 m e h in omega arith
rising_count _ (minus_zero m e h) = omega arith

pub rising_above : (x : Float) → Rising x → T (lt (fin true 1 (pos 0)) x)
unfolding lt
rising_above _ (rises m e h) = lt→ltb 0 (1 * 1 * down e + m * up e * 1) (let d = down_pos e in omega arith)
rising_above _ (minus_zero m e h) = lt→ltb (m * up e * 1) (1 * 1 * down e) (let d = down_pos e in omega arith)

pub rising_under : (x : Float) → Rising x → T (lt x (fin false 1 (pos 64)))
unfolding lt
rising_under _ (rises m e h) = lt→ltb (m * up e * 1) (1 * 2 ^ 64 * down e) (let d = down_pos e in omega arith)
rising_under _ (minus_zero m e h) = lt→ltb 0 (m * up e * 1 + 1 * 2 ^ 64 * down e) (let d = down_pos e in omega arith)

rising_whole : (x : Float) → Rising x → whole_below x ≡ pos (to_unsigned 64 x)
unfolding whole_below decimal lt to_signed to_unsigned
rising_whole _ (rises m e h) =
    let z = whole_below_lem 127 m e h in
    let q : min (m * up e / down e) (2 ^ 31 - 1) ≡ min (m * up e / down e) (2 ^ 64 - 1) = omega arith in
    rw (le-ltb (m * up e * 1) (0 * 1 * down e) (omega arith), q)
rising_whole _ (minus_zero m e h) =
    let z = whole_at_most 0 m e (omega arith) in
    let q : min (m * up e / down e) (2 ^ 31) ≡ 0 = omega arith in
    rw (le-ltb 0 (m * up e * 1 + 0 * 1 * down e) (omega arith), q)

-- the count n may be cast exactly
pub exact : (n : ℕ) → n ≤ 127 → T (in_float binary32 (pos n))
unfolding in_float
exact n h = le→leb n (2 ^ 24) (omega arith)

pub risen : (x : Float) {n p s : ℕ} {r : Float} → Rising x → n ≡ to_unsigned 64 x
    → p ≡ mantissa_bits (x ⊖ as_float n) (pos 2) → s ≡ sum32 p (shifted32 n 23) → r ≡ of_bits binary32 s
    → r ≡ pow2_fast x (pos 2)
unfolding pow2_fast
risen x {n} v en ep es er = let w : whole_below x ≡ pos n = rising_whole x v ∙ ap pos (sym en) in simp (w, er, es, ep)

-- ---- order 2, between -126 and 0

pub data Falling : Float → Type 0 where
  falls : (m : ℕ) (e : ℤ) → 0 < m * up e → m * up e < 126 * down e → Falling (fin true m e)

pub is_falling : (x : Float) → le (fin false 0 (pos 0)) x ≡ false → lt (fin true 63 (pos 1)) x ≡ true → Falling x
unfolding le lt eq
is_falling nan h k = no k
is_falling (inf true) h k = no k
is_falling (inf false) h k = on h
is_falling (fin false m e) h k = absurd (not_less (0 * 1 * down e) (m * up e * 1) (omega arith) h)
  where
    not_less : (a b : ℕ) → a ≤ b → (ltb a b || (eqb a b && true)) ≡ false → ⊥
    not_less a b l g = go (ltb a b) (eqb a b) refl refl g
      where
        go : (p q : Bool) → ltb a b ≡ p → eqb a b ≡ q → (p || (q && true)) ≡ false → ⊥
        go true q s t u = on u
        go false true s t u = on u
        go false false s t u = let y = ltb-false a b s in let z = eqb-false a b t in omega arith
is_falling (fin true m e) h k =
    falls m e (let s = some (0 * 1 * down e) (m * up e * 1) (omega arith) h in omega arith)
    (let z = ltb-true (m * up e * 1) (63 * 2 ^ 1 * down e) k in omega arith)
  where
    some : (a b : ℕ) → a ≡ 0 → (eqb a b && eqb a 0) ≡ false → 0 < b
    some a b l g = go (eqb a b) (eqb a 0) refl refl g
      where
        go : (p q : Bool) → eqb a b ≡ p → eqb a 0 ≡ q → (p && q) ≡ false → 0 < b
        go false q s t u = let z = eqb-false a b s in omega arith
        go true false s t u = let z = eqb-false a 0 t in let y : ⊥ = omega arith in absurd y
        go true true s t u = on u

pub falling_count : (x : Float) → Falling x → to_unsigned 64 (neg x) < 126
unfolding to_unsigned neg
falling_count _ (falls m e p h) = let z = whole_below_lem 126 m e h in omega arith

pub falling_above : (x : Float) → Falling x → T (lt (fin true 1 (pos 0)) (neg x))
unfolding lt neg
falling_above _ (falls m e p h) = lt→ltb 0 (1 * 1 * down e + m * up e * 1) (let d = down_pos e in omega arith)

pub falling_under : (x : Float) → Falling x → T (lt (neg x) (fin false 1 (pos 64)))
unfolding lt neg
falling_under _ (falls m e p h) = lt→ltb (m * up e * 1) (1 * 2 ^ 64 * down e) (let d = down_pos e in omega arith)

-- -q less 1
one_less : (q : ℕ) → q < 126 → to_z w32 (difference32 (of_z w32 (neg_ℤ (pos q))) 1) ≡ negsuc q
one_less zero h = refl
one_less (suc k) h =
    let e : (2 ^ 32 - suc k + 2 ^ 32 - 1) % 2 ^ 32 ≡ 4294967294 - k = omega arith in
    rw (e, le-ltb (4294967294 - k) (2 ^ 31) (omega arith)) (ap negsuc (omega arith))

falling_whole : (x : Float) → Falling x → whole_below x ≡ negsuc (to_unsigned 64 (neg x))
unfolding whole_below difference_signed decimal lt to_signed to_unsigned neg
falling_whole _ (falls m e p h) =
    let z = whole_below_lem 126 m e h in
    let a : min (m * up e / down e) (2 ^ 31) ≡ m * up e / down e = omega arith in
    let b : min (m * up e / down e) (2 ^ 64 - 1) ≡ m * up e / down e = omega arith in
    rw (lt-ltb 0 (m * up e * 1 + 0 * 1 * down e) (omega arith), a, b) (one_less (m * up e / down e) z)

-- rounding is the same on both sides of 0
neg_odd : (d q k l : ℕ) → neg (odd d true q k l) ≡ odd d false q k l
unfolding neg odd
neg_odd d zero k l = refl
neg_odd d (suc q) k l = refl

neg_cond : (b : Bool) (x y x' y' : Float) → neg x ≡ x' → neg y ≡ y' → neg (cond b x y) ≡ cond b x' y'
neg_cond true x y x' y' h k = h
neg_cond false x y x' y' h k = k

neg_units : (f : Format) (q k : ℕ) → neg (units f true q k) ≡ units f false q k
unfolding units neg
neg_units f q k =
    neg_cond (ltb (q * 2 ^ k) (2 ^ (low f + suc (emax f)))) (odd (suc (prec f)) true q k (low f)) (inf true)
    (odd (suc (prec f)) false q k (low f)) (inf false)
    (neg_odd (suc (prec f)) q k (low f)) refl

neg_round : (f : Format) (n d : ℕ) → neg (round f true n d) ≡ round f false n d
neg_round f n d =
    let w = n * 2 ^ low f in
    let k = size (w / d) - prec f in
    ap neg (round_is f true n d) ∙ neg_units f (nearest (w / (d * 2 ^ k)) (compare (w % (d * 2 ^ k) * 2) (d * 2 ^ k))) k
    ∙ sym (round_is f false n d)

away : (x : Float) (q : ℕ) → x ⊖ of_int binary32 (negsuc q) ≡ x ⊕ as_float (q + 1)
unfolding sub of_int
away x q = rw add-one (ap (add binary32 x) (neg_round binary32 (suc q) 1))

taken : (p q : ℕ) → q < 126 → difference32 p (shifted32 (q + 1) 23) ≡ sum32 p (shifted32 (of_z w32 (negsuc q)) 23)
taken p q h = omega arith

pub fallen : (x : Float) {q p s : ℕ} {r : Float} → Falling x → q ≡ to_unsigned 64 (neg x)
    → p ≡ mantissa_bits (x ⊕ as_float (q + 1)) (pos 2) → s ≡ (p + (2 ^ 32 - shifted32 (q + 1) 23)) % 2 ^ 32
    → r ≡ of_bits binary32 s → r ≡ pow2_fast x (pos 2)
unfolding pow2_fast
fallen x {q} {p} v eu ep es er =
    let d : (p + (2 ^ 32 - shifted32 (q + 1) 23)) % 2 ^ 32 ≡ difference32 p (shifted32 (q + 1) 23) =
    ap (λ (n : ℕ). n % 2 ^ 32) (omega (arith, mod-lt ((q + 1) * 2 ^ 23) (pow_pos 32))) in
    let w : whole_below x ≡ negsuc q = falling_whole x v ∙ ap negsuc (sym eu) in
    let l : q < 126 = omega (arith, eu, falling_count x v) in
    simp (w, er, es ∙ d, ep, away x q)
    (ap (of_bits binary32) (taken (mantissa_bits (x ⊕ as_float (q + 1)) (pos 2)) q l))
