-- Numbers from 0 to 1, and numbers of a size of at most 1, 2 or a half: what more sums and products of such are, each
-- rounding keeping the order. Assumes nothing.
use mathlib.Core.Path.{◌≡◌, refl}
use mathlib.Core.Bool.{true, false}
use Prim.Native.Nat.{ℕ, ◌+◌, ◌-◌, ◌*◌, ◌^◌, ◌≤◌, ◌<◌}
use native.Mathlib.Nat.{mul-le-mul, mul_left_comm}
use native.Mathlib.Omega.{arith}
use borrow.Author.Tests.{le-ltb, ltb-true, ltb-false}
use lib.IntN.{pos, negsuc}
use lib.Ieee.{Float, fin, binary32, up, down, lt, neg, add, sub, mul, sum, round}
use lib.Ieee.Fits.{down_pos}
use Rattle.numbers.specs.F32.{◌⊕◌, ◌⊖◌, ◌⊗◌}
use Rattle.numbers.proofs.Views.{no}
use Rattle.numbers.proofs.Rounded.{Upto, upto, rounded_upto}
use Rattle.numbers.proofs.Sizes.{Held, held, signed, rounded_small, sum_bound, Share, share, no_share, rounded_share}
use Rattle.lfo.proofs.Phases.{FromZero, plus, minus_zero, AtLeastZero, infinite, some, product_at_least}

-- ---- of a size of at most n / d

upto_half : (a c : ℕ) → 0 < c → a * 2 ≤ c → Upto 1 2 (round binary32 false a c)
upto_half a c p h = rounded_upto 1 (negsuc 0) a c (unfold round in refl) p (omega arith)

upto_two : (a c : ℕ) → 0 < c → a ≤ 2 * c → Upto 2 1 (round binary32 false a c)
upto_two a c p h = rounded_upto 1 (pos 1) a c (unfold round in refl) p (omega arith)

pub product_small : (x y : Float) → Held 1 1 x → Held 1 1 y → Held 1 1 (x ⊗ y)
unfolding mul
product_small _ _ (held s m e h) (held t n d k) =
    let a : m * up e ≤ down e = omega arith in
    let b : n * up d ≤ down d = omega arith in
    rounded_small _ (m * up e * (n * up d)) (down e * down d) (mul-le-mul (down_pos e) (down_pos d)) (mul-le-mul a b)

pub product_two : (x y : Float) → Held 1 1 x → Held 2 1 y → Held 2 1 (x ⊗ y)
unfolding mul
product_two _ _ (held s m e h) (held t n d k) =
    let a : m * up e ≤ down e = omega arith in
    let l : n * up d ≤ 2 * down d = omega arith in
    let b : m * up e * (n * up d) ≤ down e * (2 * down d) = mul-le-mul a l in
    let c : down e * (2 * down d) ≡ 2 * (down e * down d) = mul_left_comm (down e) 2 (down d) in
    signed 2 1 (m * up e * (n * up d)) (down e * down d)
    (upto_two (m * up e * (n * up d)) (down e * down d) (mul-le-mul (down_pos e) (down_pos d))
    (omega (arith, b, c))) _

-- ---- from 0 to 1

pub share_small : (x : Float) → Share x → Held 1 1 x
share_small _ (share m e h) = held false m e (omega arith)
share_small _ (no_share e) = held true 0 e (let p = down_pos e in omega arith)

pub share_from_zero : (x : Float) → Share x → FromZero x
share_from_zero _ (share m e h) = plus m e
share_from_zero _ (no_share e) = minus_zero e

both_share : (x : Float) → Held 1 1 x → FromZero x → Share x
both_share _ (held s m e h) (plus _ _) = share m e (omega arith)
both_share _ (held s m e h) (minus_zero _) = no_share e

pub small_share : (x : Float) → AtLeastZero x → Held 1 1 x → Share x
small_share _ infinite h = elim h [ ]
small_share _ (some x f) h = both_share x h f

pub product_share : (x y : Float) → Share x → Share y → Share (x ⊗ y)
product_share x y p q =
    small_share (x ⊗ y) (product_at_least x y (share_from_zero x p) (share_from_zero y q))
    (product_small x y (share_small x p) (share_small y q))

pub one_less : (x : Float) → Share x → Share (fin false 1 (pos 0) ⊖ x)
unfolding sub add neg sum
one_less _ (share m e h) =
    let p = down_pos e in
    let a = 1 * 1 * down e in
    let b = m * up e * 1 in
    rw (le-ltb a b (omega arith)) (rounded_share (a - b) (1 * down e) (omega arith) (omega arith))
one_less _ (no_share e) =
    let p = down_pos e in
    rounded_share (1 * 1 * down e + 0 * up e * 1) (1 * down e) (omega arith) (omega arith)

-- ---- around a half

abbrev half : Float
half = fin false 1 (negsuc 0)

pub past_half : (x : Float) → Share x → Held 1 1 (x ⊖ half)
unfolding sub add neg
past_half _ (share m e h) =
    let p = down_pos e in
    sum_bound false (m * up e * 2) true (1 * 1 * down e) (down e * 2) (omega arith) (omega arith) (omega arith)
    (λ q. no q)
past_half _ (no_share e) =
    let p = down_pos e in
    sum_bound true (0 * up e * 2) true (1 * 1 * down e) (down e * 2) (omega arith) (omega arith) (omega arith)
    (λ q. omega arith)

twice_after : (x : Float) → Upto 1 2 x → Share (x ⊗ fin false 1 (pos 1))
unfolding mul
twice_after _ (upto m e h) =
    let p = down_pos e in
    rounded_share (m * up e * (1 * 2 ^ 1)) (down e * 1) (omega arith) (omega arith)

twice_before : (x : Float) → Upto 1 2 x → Share (fin false 1 (pos 1) ⊗ x)
unfolding mul
twice_before _ (upto m e h) =
    let p = down_pos e in
    rounded_share (1 * 2 ^ 1 * (m * up e)) (1 * down e) (omega arith) (omega arith)

-- what a number from a half to 1 is past the half
above_half : (x : Float) → Share x → lt x half ≡ false → Upto 1 2 (x ⊖ half)
unfolding sub add neg sum lt
above_half _ (share m e h) l =
    let p = down_pos e in
    let a = m * up e * 2 in
    let b = 1 * 1 * down e in
    let z = ltb-false a b l in
    rw (le-ltb a b z) (upto_half (a - b) (down e * 2) (omega arith) (omega arith))
above_half _ (no_share e) l =
    let p = down_pos e in
    let z = ltb-false 0 (0 * up e * 2 + 1 * 1 * down e) l in
    let w : ⊥ = omega arith in
    absurd w

-- what a number below a half lacks to it
below_half : (x : Float) → Share x → lt x half ≡ true → Upto 1 2 (half ⊖ x)
unfolding sub add neg sum lt
below_half _ (share m e h) l =
    let p = down_pos e in
    let a = 1 * 1 * down e in
    let b = m * up e * 2 in
    let z = ltb-true b a l in
    rw (le-ltb a b (omega arith)) (upto_half (a - b) (2 * down e) (omega arith) (omega arith))
below_half _ (no_share e) l =
    let p = down_pos e in
    upto_half (1 * 1 * down e + 0 * up e * 2) (2 * down e) (omega arith) (omega arith)

pub twice_past_half : (x : Float) → Share x → lt x half ≡ false
    → Share ((x ⊖ half) ⊗ fin false 1 (pos 1)) × Share (fin false 1 (pos 1) ⊗ (x ⊖ half))
twice_past_half x p l = let u = above_half x p l in (twice_after (x ⊖ half) u, twice_before (x ⊖ half) u)

pub twice_to_half : (x : Float) → Share x → lt x half ≡ true → Share (fin false 1 (pos 1) ⊗ (half ⊖ x))
twice_to_half x p l = twice_before (half ⊖ x) (below_half x p l)

-- a half, and a half of a number from -1 to 1
halved : (x : Float) → Held 1 1 x → Held 1 2 (half ⊗ x)
unfolding mul
halved _ (held s m e h) =
    let p = down_pos e in
    signed 1 2 (1 * 1 * (m * up e)) (2 * down e)
    (upto_half (1 * 1 * (m * up e)) (2 * down e) (omega arith) (omega arith)) _

lifted : (x : Float) → Held 1 2 x → Share (half ⊕ x)
unfolding add sum
lifted _ (held false m e h) =
    let p = down_pos e in
    rounded_share (1 * 1 * down e + m * up e * 2) (2 * down e) (omega arith) (omega arith)
lifted _ (held true m e h) =
    let p = down_pos e in
    let a = 1 * 1 * down e in
    let b = m * up e * 2 in
    rw (le-ltb a b (omega arith)) (rounded_share (a - b) (2 * down e) (omega arith) (omega arith))

pub half_lifted : (x : Float) → Held 1 1 x → Share (half ⊕ half ⊗ x)
half_lifted x h = lifted (half ⊗ x) (halved x h)
