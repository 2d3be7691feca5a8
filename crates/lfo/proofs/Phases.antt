-- Phases from 0 up to 1: the sum of two, less 1 where it reaches 1, is one again, and so is a product below 2 ^ 31 less
-- its whole part. Each rounding keeps the order, and the largest f32 below 1 is 1 - 2 ^ -24. Assumes nothing.
use mathlib.Core.Path.{◌≡◌, refl, sym, ◌∙◌, ap, subst}
use mathlib.Core.Bool.{Bool, true, false, cond}
use Prim.Native.Nat.{ℕ, zero, suc, ◌+◌, ◌-◌, ◌*◌, ◌/◌, ◌%◌, ◌^◌, ◌≤◌, ◌<◌, min}
use native.Mathlib.Nat.{zero-mul, mul_comm, mul_assoc, mul_right_comm, add-mul, mul-le-mul, mul-le-mul_right}
use native.Mathlib.Nat.{div-lt_iff_lt-mul, div-add-mod', mod-lt, mul-le-mul_left}
use native.Mathlib.Omega.{arith}
use borrow.Author.Tests.{eqb-true, le-ltb, ltb-false, leb-true, leb-false}
use lib.Dec.{T, ltb, leb, eqb, lt→ltb}
use lib.IntN.{ℤ, pos, negsuc}
use lib.Pow.{pow_pos}
use lib.Ieee.{Float, nan, inf, fin, binary32, up, down, lt, le, eq, fits, neg, add, sub, mul, sum, round, of_int}
use lib.Ieee.{to_signed}
use lib.Ieee.Bits.{is_true}
use lib.Ieee.Back.{round_whole}
use lib.Ieee.Exact.{HasValue, round_exact}
use lib.Ieee.Fits.{down_pos, and_i, eq→eqb, round-fits}
use lib.Ieee.Order.{round_mono}
use lib.Ieee.Scale.{finite}
use Rattle.numbers.proofs.Views.{no, on, both, AtLeast, ge_fin, at_least, NotAtLeast, nge_fin, not_at_least, Under}
use Rattle.numbers.proofs.Views.{lt_fin, under}
use Rattle.numbers.proofs.Casts.{digits_lt, le_or}
use Rattle.utils.proofs.Whole.{whole_exact}
use Rattle.numbers.proofs.Rounded.{Plus, p_inf, p_fin, round_plus, Upto, upto, upto_at}
use Rattle.numbers.proofs.Sizes.{no_digits}

-- ---- finite and at least 0

pub data FromZero : Float → Type 0 where
  plus : (m : ℕ) (e : ℤ) → FromZero (fin false m e)
  minus_zero : (e : ℤ) → FromZero (fin true 0 e)

negative_zero : (m : ℕ) (e : ℤ) → m ≡ 0 → FromZero (fin true m e)
negative_zero m e h = subst (λ (n : ℕ). FromZero (fin true n e)) (sym h) (minus_zero e)

pub is_from_zero : (x : Float) → le (fin false 0 (pos 0)) x ≡ true → T (finite x) → FromZero x
unfolding le lt eq
is_from_zero nan h f = absurd f
is_from_zero (inf s) h f = absurd f
is_from_zero (fin false m e) h f = plus m e
is_from_zero (fin true m e) h f =
    negative_zero m e (no_digits m e
    (let z = eqb-true (0 * 1 * down e) (m * up e * 1)
    (both (eqb (0 * 1 * down e) (m * up e * 1)) (eqb (0 * 1 * down e) 0) h).0 in omega arith))

pub under_from_zero : (j : ℕ) (x : Float) → le (fin false 0 (pos 0)) x ≡ true → lt x (fin false 1 (pos j)) ≡ true
    → FromZero x
unfolding le lt eq
under_from_zero j nan g h = no h
under_from_zero j (inf true) g h = no g
under_from_zero j (inf false) g h = no h
under_from_zero j (fin s m e) g h = is_from_zero (fin s m e) g tt

pub from_zero_le : (x : Float) → FromZero x → T (le (fin false 0 (pos 0)) x)
unfolding le lt eq
from_zero_le _ (plus m e) = le_or (0 * 1 * down e) (m * up e * 1) (omega arith)
from_zero_le _ (minus_zero e) =
    let z : 0 * 1 * down e ≡ 0 * up e * 1 = omega arith in
    let w : 0 * 1 * down e ≡ 0 = omega arith in
    and_i (eqb (0 * 1 * down e) (0 * up e * 1)) (eqb (0 * 1 * down e) 0) (eq→eqb z) (eq→eqb w)

pub from_zero_finite : (x : Float) → FromZero x → T (finite x)
from_zero_finite _ (plus m e) = tt
from_zero_finite _ (minus_zero e) = tt

-- ---- from 0 to 1 - 2 ^ -24

pub data Part : Float → Type 0 where
  part : (m : ℕ) (e : ℤ) → m * up e * 2 ^ 24 ≤ 16777215 * down e → Part (fin false m e)
  no_part : (e : ℤ) → Part (fin true 0 e)

pub part_from_zero : (x : Float) → Part x → FromZero x
part_from_zero _ (part m e h) = plus m e
part_from_zero _ (no_part e) = minus_zero e

pub part_below_one : (x : Float) → Part x → T (lt x (fin false 1 (pos 0)))
unfolding lt
part_below_one _ (part m e h) = lt→ltb (m * up e * 1) (1 * 1 * down e) (let p = down_pos e in omega arith)
part_below_one _ (no_part e) = lt→ltb 0 (0 * up e * 1 + 1 * 1 * down e) (let p = down_pos e in omega arith)

-- R of E parts, with R of at most 24 digits
short_of_one : (R E : ℕ) → R < E → R < 2 ^ 24 → R * 2 ^ 24 ≤ 16777215 * E
short_of_one R E h k = go (leb E (2 ^ 24)) refl
  where
    go : (b : Bool) → leb E (2 ^ 24) ≡ b → R * 2 ^ 24 ≤ 16777215 * E
    go true t = let z = leb-true E (2 ^ 24) t in omega arith
    go false t = let z = leb-false E (2 ^ 24) t in omega arith

few_digits : (m : ℕ) (e : ℤ) → m < 2 ^ 24 → m * up e < down e → m * up e < 2 ^ 24
few_digits m (pos k) f h = omega arith
few_digits m (negsuc k) f h = omega arith

part_of_fin : (m : ℕ) (e : ℤ) → T (fits binary32 (fin false m e)) → m * up e < down e → Part (fin false m e)
part_of_fin m e f h = part m e (short_of_one (m * up e) (down e) h (few_digits m e (digits_lt m e f) h))

under_one : (m : ℕ) (e : ℤ) → Under 0 (fin false m e) → m * up e < down e
under_one m e (lt_fin _ _ h) = omega arith

pub is_part : (x : Float) → T (fits binary32 x) → FromZero x → lt x (fin false 1 (pos 0)) ≡ true → Part x
is_part _ f (plus m e) h = part_of_fin m e f (under_one m e (under 0 (fin false m e) h))
is_part _ f (minus_zero e) h = no_part e

from_upto : (x : Float) → Upto 16777215 (2 ^ 24) x → Part x
from_upto _ (upto m e h) = part m e h

rounded_part : (n d : ℕ) → 0 < d → n * 2 ^ 24 ≤ 16777215 * d → Part (round binary32 false n d)
unfolding round
rounded_part n d p h =
    from_upto (round binary32 false n d)
    (upto_at 16777215 (negsuc 23) (round binary32 false n d) (round_plus n d)
    (is_true _ (round_mono binary32 n d 16777215 (2 ^ 24) p (omega arith) h)))

-- a negative rounding of nothing is -0
cleared : (a b c : ℕ) → 0 < b → a * b ≡ c → c ≡ 0 → a ≡ 0
cleared zero b c q h z = refl
cleared (suc a) b c q h z = let o : 1 ≤ suc a = omega arith in let w = mul-le-mul o q in omega arith

zero_value : (x : Float) (d : ℕ) → 0 < d → HasValue x true 0 d → Part x
zero_value nan d p v = absurd v
zero_value (inf s) d p v = absurd v
zero_value (fin false m e) d p v = no v.0
zero_value (fin true m e) d p v =
    let z : m ≡ 0 = no_digits m e (cleared (m * up e) d (0 * down e) p v.1 (omega arith)) in
    subst (λ (n : ℕ). Part (fin true n e)) (sym z) (no_part e)

zero_part : (n d : ℕ) → n ≡ 0 → 0 < d → Part (round binary32 true n d)
zero_part n d z p =
    subst (λ (k : ℕ). Part (round binary32 true k d)) (sym z)
    (zero_value (round binary32 true 0 d) d p
    (round_exact binary32 true 0 d 0 0 p (pow_pos 24) (pow_pos 277) (sym (zero-mul d))))

-- ---- the sum of two, and what a wrap leaves of it

-- from 0 to 2 - 2 ^ -23
pub data Sum : Float → Type 0 where
  sum_of : (n d : ℕ) → 0 < d → n * 2 ^ 23 ≤ 16777215 * d → Sum (round binary32 false n d)
  sum_small : (x : Float) → Part x → Sum x

added : (A B E D : ℕ) → A * 2 ^ 24 ≤ 16777215 * E → B * 2 ^ 24 ≤ 16777215 * D
    → (A * D + B * E) * 2 ^ 23 ≤ 16777215 * (E * D)
added A B E D h k =
    let p : A * 2 ^ 24 * D ≤ 16777215 * E * D = mul-le-mul_right D h in
    let q : B * 2 ^ 24 * E ≤ 16777215 * D * E = mul-le-mul_right E k in
    let a : A * 2 ^ 24 * D ≡ A * D * 2 ^ 24 = mul_right_comm A (2 ^ 24) D in
    let b : B * 2 ^ 24 * E ≡ B * E * 2 ^ 24 = mul_right_comm B (2 ^ 24) E in
    let c : 16777215 * E * D ≡ 16777215 * (E * D) = mul_assoc 16777215 E D in
    let d : 16777215 * D * E ≡ 16777215 * (D * E) = mul_assoc 16777215 D E in
    let f : D * E ≡ E * D = mul_comm D E in
    omega arith

less : (a b c : ℕ) → b ≡ 0 → a * 2 ^ 24 ≤ 16777215 * c → (a - b) * 2 ^ 24 ≤ 16777215 * c
less a b c z h = omega arith

scaled : (A E D : ℕ) → A * 2 ^ 24 ≤ 16777215 * E → A * D * 2 ^ 24 ≤ 16777215 * (E * D)
scaled A E D h =
    let p : A * 2 ^ 24 * D ≤ 16777215 * E * D = mul-le-mul_right D h in
    let a : A * 2 ^ 24 * D ≡ A * D * 2 ^ 24 = mul_right_comm A (2 ^ 24) D in
    let c : 16777215 * E * D ≡ 16777215 * (E * D) = mul_assoc 16777215 E D in
    omega arith

both_pos : (e d : ℤ) → 0 < down e * down d
both_pos e d = mul-le-mul (down_pos e) (down_pos d)

pub gone : (a b : ℕ) → 0 * a * b ≡ 0
gone a b = omega (arith, mul_assoc 0 a b)

nothing : (d e : ℤ) → 0 * up e * down d ≡ 0
nothing d e = gone (up e) (down d)

mixed : (a b c : ℕ) → a ≡ 0 → 0 < c → b * 2 ^ 24 ≤ 16777215 * c → (t : Bool) → ltb a b ≡ t
    → Sum (cond t (round binary32 false (b - a) c) (round binary32 (ltb b a) (a - b) c))
mixed a b c z p h true l = sum_small _ (rounded_part (b - a) c p (less b a c z h))
mixed a b c z p h false l =
    rw (le-ltb b a (let w = ltb-false a b l in omega arith)) (sum_small _ (rounded_part (a - b) c p (omega arith)))

pub parts_add : (x y : Float) → Part x → Part y → Sum (add binary32 x y)
unfolding add sum
parts_add _ _ (part m e h) (part n d k) =
    sum_of (m * up e * down d + n * up d * down e) (down e * down d) (both_pos e d)
    (added (m * up e) (n * up d) (down e) (down d) h k)
parts_add _ _ (part m e h) (no_part d) =
    let a = m * up e * down d in
    let b = 0 * up d * down e in
    let z : b ≡ 0 = nothing e d in
    rw (le-ltb a b (omega arith))
    (sum_small _ (rounded_part (a - b) (down e * down d) (both_pos e d)
    (less a b (down e * down d) z (scaled (m * up e) (down e) (down d) h))))
parts_add _ _ (no_part e) (part n d k) =
    mixed (0 * up e * down d) (n * up d * down e) (down e * down d) (nothing d e) (both_pos e d)
    (subst (λ (c : ℕ). n * up d * down e * 2 ^ 24 ≤ 16777215 * c) (mul_comm (down d) (down e))
    (scaled (n * up d) (down d) (down e) k)) (ltb (0 * up e * down d) (n * up d * down e)) refl
parts_add _ _ (no_part e) (no_part d) =
    sum_small _ (zero_part (0 * up e * down d + 0 * up d * down e) (down e * down d)
    (omega (arith, nothing d e, nothing e d)) (both_pos e d))

part_not_one : (x : Float) → Part x → AtLeast 0 x → ⊥
part_not_one _ (part m e h) (ge_fin _ _ l) = let p = down_pos e in omega arith
part_not_one _ (no_part e) x = elim x [ ]

one_less : (m : ℕ) (e : ℤ) → m * up e * 2 ^ 23 ≤ 16777215 * down e → AtLeast 0 (fin false m e)
    → Part (sub binary32 (fin false m e) (fin false 1 (pos 0)))
unfolding sub add neg sum
one_less m e h (ge_fin _ _ l) =
    let a = m * up e * 1 in
    let b = 1 * down e in
    let p = down_pos e in
    rw (le-ltb a b (omega arith)) (rounded_part (a - b) (down e * 1) (omega arith) (omega arith))

below_one : (m : ℕ) (e : ℤ) → T (fits binary32 (fin false m e)) → NotAtLeast 0 (fin false m e) → Part (fin false m e)
below_one m e f (nge_fin _ _ l) = part_of_fin m e f (omega arith)

wrap_upto : (x : Float) → T (fits binary32 x) → Upto 16777215 (2 ^ 23) x
    → Part (cond (le (fin false 1 (pos 0)) x) (sub binary32 x (fin false 1 (pos 0))) x)
wrap_upto _ f (upto m e h) = go (le (fin false 1 (pos 0)) (fin false m e)) refl
  where
    go : (b : Bool) → le (fin false 1 (pos 0)) (fin false m e) ≡ b
        → Part (cond b (sub binary32 (fin false m e) (fin false 1 (pos 0))) (fin false m e))
    go true l = one_less m e h (at_least 0 (fin false m e) l)
    go false l = below_one m e f (not_at_least 0 (fin false m e) l)

wrap_small : (x : Float) → Part x → (b : Bool) → le (fin false 1 (pos 0)) x ≡ b
    → Part (cond b (sub binary32 x (fin false 1 (pos 0))) x)
wrap_small x p true l = absurd (part_not_one x p (at_least 0 x l))
wrap_small x p false l = p

upto_two : (n d : ℕ) → 0 < d → n * 2 ^ 23 ≤ 16777215 * d → Upto 16777215 (2 ^ 23) (round binary32 false n d)
unfolding round
upto_two n d p h = upto_at 16777215 (negsuc 22) (round binary32 false n d) (round_plus n d)
    (is_true _ (round_mono binary32 n d 16777215 (2 ^ 23) p (omega arith) h))

pub sum_wraps : (x : Float) → Sum x → Part (cond (le (fin false 1 (pos 0)) x) (sub binary32 x (fin false 1 (pos 0))) x)
sum_wraps _ (sum_small x p) = wrap_small x p (le (fin false 1 (pos 0)) x) refl
sum_wraps _ (sum_of n d p h) = wrap_upto (round binary32 false n d) (round-fits binary32 false n d) (upto_two n d p h)

-- ---- a product of two that are at least 0

pub data AtLeastZero : Float → Type 0 where
  infinite : AtLeastZero (inf false)
  some : (x : Float) → FromZero x → AtLeastZero x

pub plus_at_least : (x : Float) → Plus x → AtLeastZero x
plus_at_least _ p_inf = infinite
plus_at_least _ (p_fin m e) = some _ (plus m e)

pub product_at_least : (x y : Float) → FromZero x → FromZero y → AtLeastZero (mul binary32 x y)
unfolding mul
product_at_least _ _ (plus m e) (plus n d) = plus_at_least _ (round_plus (m * up e * (n * up d)) (down e * down d))
product_at_least _ _ (plus m e) (minus_zero d) =
    some _ (part_from_zero _
    (zero_part (m * up e * (0 * up d)) (down e * down d) (mul_comm (m * up e) (0 * up d) ∙ gone (up d) (m * up e))
    (both_pos e d)))
product_at_least _ _ (minus_zero e) (plus n d) =
    some _ (part_from_zero _
    (zero_part (0 * up e * (n * up d)) (down e * down d) (gone (up e) (n * up d)) (both_pos e d)))
product_at_least _ _ (minus_zero e) (minus_zero d) =
    plus_at_least _ (round_plus (0 * up e * (0 * up d)) (down e * down d))

pub below_power : (j : ℕ) (x : Float) → AtLeastZero x → lt x (fin false 1 (pos j)) ≡ true → FromZero x
unfolding lt
below_power j _ infinite h = no h
below_power j _ (some x f) h = f

pub when_finite : (x : Float) → AtLeastZero x → T (finite x) → FromZero x
when_finite _ infinite h = absurd h
when_finite _ (some x f) h = f

-- ---- a number below 2 ^ 31 less its whole part

-- y has R = U - n * E of E parts past n, with F as a common factor
past : (U E F n Q : ℕ) → Q * 1 ≡ n * F → n * E ≤ U → (U - n * E) * 2 ^ 24 ≤ 16777215 * E → (Q * E ≤ U * F)
    × ((U * F - Q * E) * 2 ^ 24 ≤ 16777215 * (E * F))
past U E F n Q v l w =
    let R : ℕ = U - n * E in
    let u : U ≡ n * E + R = omega arith in
    let a : U * F ≡ n * E * F + R * F = ap (λ (x : ℕ). x * F) u ∙ add-mul (n * E) R F in
    let q : Q ≡ n * F = omega arith in
    let b : Q * E ≡ n * E * F = ap (λ (x : ℕ). x * E) q ∙ mul_right_comm n F E in
    let x : R * F * 2 ^ 24 ≤ 16777215 * (E * F) = scaled R E F w in
    (omega (arith, a, b), omega (arith, a, b, x))

less_whole : (m : ℕ) (e : ℤ) (z : Float) (n : ℕ) → HasValue z false n 1 → n * down e ≤ m * up e
    → (m * up e - n * down e) * 2 ^ 24 ≤ 16777215 * down e
    → Part (sub binary32 (fin false m e) z)
unfolding sub add neg sum
less_whole m e nan n v l w = absurd v
less_whole m e (inf s) n v l w = absurd v
less_whole m e (fin true q d) n v l w = on v.0
less_whole m e (fin false q d) n v l w =
    let p = past (m * up e) (down e) (down d) n (q * up d) v.1 l w in
    rw (le-ltb (m * up e * down d) (q * up d * down e) p.0)
    (rounded_part (m * up e * down d - q * up d * down e) (down e * down d) (both_pos e d) p.1)

over_one : (n : ℕ) → n / 1 ≡ n
over_one n = omega arith

small_whole : (n : ℕ) → n < 2 ^ 24 → HasValue (of_int binary32 (pos n)) false n 1
unfolding of_int
small_whole n h = round_whole binary32 false n (omega arith)

-- the whole part of a number below 2 ^ 31 is an f32
whole_value : (m : ℕ) (e : ℤ) → m < 2 ^ 24 → m * up e < 2 ^ 31 * down e
    → HasValue (of_int binary32 (pos (m * up e / down e))) false (m * up e / down e) 1
whole_value m (pos k) f h =
    subst (λ (n : ℕ). HasValue (of_int binary32 (pos n)) false n 1) (sym (over_one (m * 2 ^ k)))
    (whole_exact m k f (omega arith))
whole_value m (negsuc k) f h =
    small_whole (m * 1 / 2 ^ suc k)
    ((div-lt_iff_lt-mul (pow_pos (suc k))).1 (let p = mul-le-mul_left (2 ^ 24) (pow_pos (suc k)) in omega arith))

-- what is left has at most 24 digits
rest_digits : (m : ℕ) (e : ℤ) (r : ℕ) → m < 2 ^ 24 → r < down e → r ≤ m * up e → r < 2 ^ 24
rest_digits m (pos k) r f h l = omega arith
rest_digits m (negsuc k) r f h l = omega arith

under_whole : (m : ℕ) (e : ℤ) → Under 31 (fin false m e) → m * up e < 2 ^ 31 * down e
under_whole m e (lt_fin _ _ h) = h

whole_is : (m : ℕ) (e : ℤ) → m * up e < 2 ^ 31 * down e → to_signed 31 (fin false m e) ≡ pos (m * up e / down e)
unfolding to_signed
whole_is m e h = let q : m * up e / down e < 2 ^ 31 = (div-lt_iff_lt-mul (down_pos e)).1 h in ap pos (omega arith)

no_whole : (e : ℤ) → to_signed 31 (fin true 0 e) ≡ pos 0
unfolding to_signed
no_whole e =
    let q : 0 * up e / down e < 1 = (div-lt_iff_lt-mul (down_pos e)).1 (let p = down_pos e in omega arith) in
    let z : min (0 * up e / down e) (2 ^ 31) ≡ 0 = omega arith in
    rw z

minus_zero_less : (e : ℤ) → Part (sub binary32 (fin true 0 e) (of_int binary32 (pos 0)))
unfolding sub add neg sum of_int
minus_zero_less e = zero_part (0 * up e * 1 + 0 * 1 * down e) (down e * 1) (omega arith)
    (let p = down_pos e in omega arith)

pub past_whole_lem : (x : Float) → T (fits binary32 x) → FromZero x → lt x (fin false 1 (pos 31)) ≡ true
    → Part (sub binary32 x (of_int binary32 (to_signed 31 x)))
past_whole_lem _ f (minus_zero e) h = rw (no_whole e) (minus_zero_less e)
past_whole_lem _ f (plus m e) h =
    let b = under_whole m e (under 31 (fin false m e) h) in
    let n = m * up e / down e in
    let g : n * down e + m * up e % down e ≡ m * up e = div-add-mod' (m * up e) (down e) in
    let r = mod-lt (m * up e) (down_pos e) in
    let d = digits_lt m e f in
    let w : (m * up e - n * down e) * 2 ^ 24 ≤ 16777215 * down e =
    short_of_one (m * up e - n * down e) (down e) (omega arith)
    (rest_digits m e (m * up e - n * down e) d (omega arith) (omega arith)) in
    rw (whole_is m e b) (less_whole m e (of_int binary32 (pos n)) n (whole_value m e d b) (omega arith) w)
