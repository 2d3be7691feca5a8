-- What a rounding is: with no sign an infinity or a number with no sign, with a sign the other's negative, and never a
-- NaN; a fraction that is at most some float is so rounded too. Assumes nothing.
use Rattle.std.proofs.Common.{◌≡◌, ℕ, zero, suc, ◌+◌, ◌-◌, ◌*◌, ◌/◌, ◌%◌, ◌^◌, ◌<◌, ◌≤◌, Bool, true, false, cond, T}
use Rattle.std.proofs.Common.{ltb, ℤ, pos, refl, subst}
use Prim.Native.Nat.{compare}
use lib.Ieee.Bits.{is_true}
use lib.Ieee.Order.{round_mono}
use lib.Ieee.Fits.{down_pos}
use lib.Ieee.{Float, inf, fin, binary32, up, down, lt, le, eq, neg, sum, round, units, odd}
use lib.Ieee.{nearest, size, prec, low, emax, is_nan}
use Rattle.numbers.proofs.Views.{no, or_le}

-- ---- with no sign

pub data Plus : Float → Type 0 where
  p_inf : Plus (inf false)
  p_fin : (m : ℕ) (e : ℤ) → Plus (fin false m e)

odd_plus : (d q k l : ℕ) → Plus (odd d false q k l)
unfolding odd
odd_plus d zero k l = p_fin zero (pos zero)
odd_plus d (suc q) k l = p_fin _ _

units_plus : (q k : ℕ) → Plus (units binary32 false q k)
unfolding units
units_plus q k = go (ltb (q * 2 ^ k) (2 ^ (low binary32 + suc (emax binary32))))
  where
    go : (b : Bool) → Plus (cond b (odd (suc (prec binary32)) false q k (low binary32)) (inf false))
    go true = odd_plus (suc (prec binary32)) q k (low binary32)
    go false = p_inf

pub round_plus : (n d : ℕ) → Plus (round binary32 false n d)
unfolding round
round_plus n d =
    let N = n * 2 ^ low binary32 in
    let k = size (N / d) - prec binary32 in
    let u = d * 2 ^ k in
    units_plus (nearest (N / u) (compare (N % u * 2) u)) k

-- ---- with a sign

odd_neg : (d q k l : ℕ) → odd d true q k l ≡ neg (odd d false q k l)
unfolding odd neg
odd_neg d zero k l = refl
odd_neg d (suc q) k l = refl

units_neg : (q k : ℕ) → units binary32 true q k ≡ neg (units binary32 false q k)
unfolding units neg
units_neg q k = go (ltb (q * 2 ^ k) (2 ^ (low binary32 + suc (emax binary32))))
  where
    go : (b : Bool) → cond b (odd (suc (prec binary32)) true q k (low binary32)) (inf true)
        ≡ neg (cond b (odd (suc (prec binary32)) false q k (low binary32)) (inf false))
    go true = odd_neg (suc (prec binary32)) q k (low binary32)
    go false = refl

pub round_neg : (n d : ℕ) → round binary32 true n d ≡ neg (round binary32 false n d)
unfolding round
round_neg n d =
    let N = n * 2 ^ low binary32 in
    let k = size (N / d) - prec binary32 in
    let u = d * 2 ^ k in
    units_neg (nearest (N / u) (compare (N % u * 2) u)) k

-- what holds of a rounded fraction and of its negative holds of it with either sign
pub either_sign : (P : Float → Type 0) (a c : ℕ) → P (round binary32 false a c) → P (neg (round binary32 false a c))
    → (s : Bool) → P (round binary32 s a c)
either_sign P a c p q false = p
either_sign P a c p q true = rw (round_neg a c) q

-- ---- no NaN

plus_number : (x : Float) → Plus x → (is_nan x ≡ false) × (is_nan (neg x) ≡ false)
unfolding is_nan neg
plus_number _ p_inf = (refl, refl)
plus_number _ (p_fin m e) = (refl, refl)

round_number : (s : Bool) (a c : ℕ) → is_nan (round binary32 s a c) ≡ false
round_number s a c =
    let p = plus_number (round binary32 false a c) (round_plus a c) in
    either_sign (λ (x : Float). is_nan x ≡ false) a c p.0 p.1 s

pub sum_number : (s : Bool) (a : ℕ) (t : Bool) (b c : ℕ) → is_nan (sum binary32 s a t b c) ≡ false
unfolding sum
sum_number false a false b c = round_number false (a + b) c
sum_number true a true b c = round_number true (a + b) c
sum_number false a true b c = go (ltb a b)
  where
    go : (p : Bool) → is_nan (cond p (round binary32 true (b - a) c) (round binary32 false (a - b) c)) ≡ false
    go true = round_number true (b - a) c
    go false = round_number false (a - b) c
sum_number true a false b c = go (ltb a b)
  where
    go : (p : Bool) → is_nan (cond p (round binary32 false (b - a) c) (round binary32 (ltb b a) (a - b) c)) ≡ false
    go true = round_number false (b - a) c
    go false = round_number (ltb b a) (a - b) c

-- ---- at most n / d

pub data Upto (n d : ℕ) : Float → Type 0 where
  upto : (m : ℕ) (e : ℤ) → m * up e * d ≤ n * down e → Upto n d (fin false m e)

-- at most a float that is not negative
pub upto_at : (n : ℕ) (d : ℤ) (x : Float) → Plus x → le x (fin false n d) ≡ true → Upto (n * up d) (down d) x
unfolding le lt eq
upto_at n d _ p_inf h = no h
upto_at n d _ (p_fin m e) h = upto m e (or_le (m * up e * down d) (n * up d * down e) true h)

-- a fraction of at most n * 2 ^ d, rounded, where that is a float
pub rounded_upto : (n : ℕ) (d : ℤ) (a c : ℕ) → round binary32 false (n * up d) (down d) ≡ fin false n d → 0 < c
    → a * down d ≤ n * up d * c → Upto (n * up d) (down d) (round binary32 false a c)
rounded_upto n d a c e p h =
    let l = round_mono binary32 a c (n * up d) (down d) p (down_pos d) h in
    upto_at n d (round binary32 false a c) (round_plus a c)
    (is_true _ (subst (λ (x : Float). T (le (round binary32 false a c) x)) e l))
