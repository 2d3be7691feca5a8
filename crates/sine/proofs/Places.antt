-- The sine at a phase in turns is from -1 to 1 wherever the phase is no NaN: clamped, what the whole part leaves of it
-- is from 0 to 1, so its place is at most 512, and what the place is past an entry is from 0 to 1. Assumes nothing.
use mathlib.Core.Path.{◌≡◌, refl, sym, ap, ◌∙◌, subst}
use mathlib.Core.Bool.{Bool, true, false, cond}
use mathlib.Core.List.{List}
use Prim.Native.Nat.{ℕ, zero, suc, ◌+◌, ◌-◌, ◌*◌, ◌/◌, ◌%◌, ◌^◌, ◌≤◌, ◌<◌, min}
use native.Mathlib.Nat.{add-mul, mul-le-mul, mul-le-mul_right, mul_right_comm, div-lt_iff_lt-mul, div-add-mod', mod-lt}
use native.Mathlib.Omega.{arith}
use borrow.Author.Tests.{le-ltb, ltb-false}
use lib.Dec.{T}
use lib.IntN.{ℤ, pos, neg_ℤ}
use lib.Ieee.{Float, nan, inf, fin, binary32, up, down, lt, is_nan, neg, add, sub, mul, sum, round, of_int, to_unsigned}
use lib.Ieee.{to_signed}
use lib.Ieee.Back.{round_whole}
use lib.Ieee.Exact.{HasValue}
use lib.Ieee.Fits.{down_pos}
use Rattle.numbers.specs.F32.{◌⊖◌, ◌⊗◌, decimal, as_float}
use Rattle.numbers.specs.Extremes.{clamped}
use Rattle.numbers.proofs.Views.{on}
use Rattle.numbers.proofs.Rounded.{Upto, upto, rounded_upto, sum_number}
use Rattle.numbers.proofs.Sizes.{Held, held, signed, rounded_none, Share, share, no_share, rounded_share, none_share}
use Rattle.utils.specs.Interpolate.{line_at, interpolated, interpolated_wrap}
use Rattle.utils.proofs.Lookup.{between}
use Rattle.sine.specs.Table.{lut_sine}
use Rattle.sine.specs.Sine.{sine_of}
use Rattle.sine.specs.Bound.{within}
use Rattle.sine.proofs.Bounded.{held_within}
use Rattle.sine.proofs.Lines.{line_held}

-- ---- without its whole part, a phase is no NaN

-- a whole number of at most 2 ^ 31, with either sign, is finite as f32
whole_held : (n : ℕ) → n ≤ 2 ^ 31
    → Held (1 * 2 ^ 31) 1 (of_int binary32 (pos n)) × Held (1 * 2 ^ 31) 1 (of_int binary32 (neg_ℤ (pos n)))
unfolding of_int
whole_held n h =
    let u = rounded_upto 1 (pos 31) n 1 (unfold round in refl) (omega arith) (omega arith) in
    go n (signed (1 * 2 ^ 31) 1 n 1 u)
  where
    go : (n : ℕ) → ((s : Bool) → Held (1 * 2 ^ 31) 1 (round binary32 s n 1))
        → Held (1 * 2 ^ 31) 1 (of_int binary32 (pos n)) × Held (1 * 2 ^ 31) 1 (of_int binary32 (neg_ℤ (pos n)))
    go zero u = (u false, u false)
    go (suc n) u = (u false, u true)

cast_held : (x : Float) → Held (1 * 2 ^ 31) 1 (of_int binary32 (to_signed 31 x))
unfolding to_signed
cast_held nan = (whole_held 0 (omega arith)).0
cast_held (inf true) = (whole_held (2 ^ 31) (omega arith)).1
cast_held (inf false) = (whole_held (2 ^ 31 - 1) (omega arith)).0
cast_held (fin true m e) = (whole_held (min (m * up e / down e) (2 ^ 31)) (omega arith)).1
cast_held (fin false m e) = (whole_held (min (m * up e / down e) (2 ^ 31 - 1)) (omega arith)).0

less_number : (n d : ℕ) (x y : Float) → is_nan x ≡ false → Held n d y → is_nan (x ⊖ y) ≡ false
unfolding is_nan sub add neg
less_number n d nan _ h (held t k g l) = on h
less_number n d (inf s) _ h (held t k g l) = refl
less_number n d (fin s m e) _ h (held t k g l) =
    sum_number s (m * up e * down g) _ (k * up g * down e) (down e * down g)

-- ---- clamped, it is from 0 to 1

unit_share : (x : Float) → is_nan x ≡ false → lt x (fin false 0 (pos 0)) ≡ false
    → lt (fin false 1 (pos 0)) x ≡ false → Share x
unfolding is_nan lt
unit_share nan n a b = on n
unit_share (inf true) n a b = on a
unit_share (inf false) n a b = on b
unit_share (fin false m e) n a b =
    share m e (let z = ltb-false (1 * 1 * down e) (m * up e * 1) b in omega arith)
unit_share (fin true m e) n a b =
    none_share (fin true m e) (held true m e (let z = ltb-false 0 (m * up e * 1 + 0 * 1 * down e) a in omega arith))

clamped_share : (x : Float) → is_nan x ≡ false → Share (clamped x)
unfolding clamped decimal
clamped_share x n = go (lt x (fin false 0 (pos 0))) (lt (fin false 1 (pos 0)) x) refl refl
  where
    go : (a b : Bool) → lt x (fin false 0 (pos 0)) ≡ a → lt (fin false 1 (pos 0)) x ≡ b
        → Share (cond a (fin false 0 (pos 0)) (cond b (fin false 1 (pos 0)) x))
    go true b p q = share 0 (pos 0) (omega arith)
    go false true p q = share 1 (pos 0) (omega arith)
    go false false p q = unit_share x n p q

-- ---- the place

-- from 0 to 512
data Low : Float → Type 0 where
  low_plus : (m : ℕ) (e : ℤ) → m * up e ≤ 512 * down e → Low (fin false m e)
  low_zero : (e : ℤ) → Low (fin true 0 e)

upto_low : (x : Float) → Upto (1 * 2 ^ 9) 1 x → Low x
upto_low _ (upto m e h) = low_plus m e (omega arith)

share_low : (x : Float) → Share x → Low x
share_low _ (share m e h) = low_plus m e (omega arith)
share_low _ (no_share e) = low_zero e

place_low : (x : Float) → Share x → Low (x ⊗ fin false 1 (pos 9))
unfolding mul
place_low _ (share m e h) =
    let n = m * up e * (1 * 2 ^ 9) in
    let d = down e * 1 in
    let p = down_pos e in
    upto_low (round binary32 false n d) (rounded_upto 1 (pos 9) n d (unfold round in refl) (omega arith) (omega arith))
place_low _ (no_share e) =
    let p = down_pos e in
    share_low _ (none_share _ (rounded_none true (0 * up e * (1 * 2 ^ 9)) (down e * 1) (omega arith) (omega arith)))

-- its whole part is the index of an entry with a next one
low_index : (x : Float) → Low x → to_unsigned 64 x < 640
unfolding to_unsigned
low_index _ (low_plus m e h) =
    let q : m * up e / down e < 513 = (div-lt_iff_lt-mul (down_pos e)).1 (let p = down_pos e in omega arith) in
    omega arith
low_index _ (low_zero e) = omega arith

-- y has U - n * E of E parts past n, with F as a common factor
past : (U E F n Q : ℕ) → Q * 1 ≡ n * F → n * E ≤ U → U - n * E < E → (Q * E ≤ U * F) × (U * F - Q * E ≤ E * F)
past U E F n Q v l r =
    let R : ℕ = U - n * E in
    let u : U ≡ n * E + R = omega arith in
    let a : U * F ≡ n * E * F + R * F = ap (λ (x : ℕ). x * F) u ∙ add-mul (n * E) R F in
    let q : Q ≡ n * F = omega arith in
    let b : Q * E ≡ n * E * F = ap (λ (x : ℕ). x * E) q ∙ mul_right_comm n F E in
    let s : R ≤ E = omega arith in
    let w : R * F ≤ E * F = mul-le-mul_right F s in
    (omega (arith, a, b), omega (arith, a, b, w))

less_whole : (m : ℕ) (e : ℤ) (z : Float) (n : ℕ) → HasValue z false n 1 → n * down e ≤ m * up e
    → m * up e - n * down e < down e → Share (fin false m e ⊖ z)
unfolding sub add neg sum
less_whole m e nan n v l r = absurd v
less_whole m e (inf s) n v l r = absurd v
less_whole m e (fin true q d) n v l r = on v.0
less_whole m e (fin false q d) n v l r =
    let p = past (m * up e) (down e) (down d) n (q * up d) v.1 l r in
    let z = mul-le-mul (down_pos e) (down_pos d) in
    rw (le-ltb (m * up e * down d) (q * up d * down e) p.0)
    (rounded_share (m * up e * down d - q * up d * down e) (down e * down d) z p.1)

zero_past : (e : ℤ) → Share (fin true 0 e ⊖ as_float 0)
unfolding sub add neg sum of_int
zero_past e =
    let p = down_pos e in
    none_share _ (rounded_none true (0 * up e * 1 + 0 * 1 * down e) (down e * 1) (omega arith) (omega arith))

-- and what it is past that entry is from 0 to 1
low_past : (x : Float) → Low x → Share (x ⊖ as_float (to_unsigned 64 x))
unfolding to_unsigned of_int
low_past _ (low_plus m e h) =
    let n = m * up e / down e in
    let q : n < 513 = (div-lt_iff_lt-mul (down_pos e)).1 (let p = down_pos e in omega arith) in
    let i : to_unsigned 64 (fin false m e) ≡ n = omega arith in
    let g : n * down e + m * up e % down e ≡ m * up e = div-add-mod' (m * up e) (down e) in
    let r = mod-lt (m * up e) (down_pos e) in
    subst (λ (k : ℕ). Share (fin false m e ⊖ as_float k)) (sym i)
    (less_whole m e (as_float n) n (round_whole binary32 false n (omega arith)) (omega arith) (omega arith))
low_past _ (low_zero e) = zero_past e

-- ---- the line there

place_held : (place : Float) → Low place → Held 1 1 (line_at lut_sine place)
place_held place l =
    let i = to_unsigned 64 place in
    let h = low_index place l in
    subst (Held 1 1) (between lut_sine place i refl (as_float i) refl (unfold lut_sine in omega arith))
    (line_held i (place ⊖ as_float i) h (low_past place l))

pub sine_held : (phase : Float) → is_nan phase ≡ false → Held 1 1 (sine_of lut_sine phase)
unfolding sine_of interpolated_wrap interpolated decimal
sine_held phase h =
    let x = phase ⊖ of_int binary32 (to_signed 31 phase) in
    place_held (clamped x ⊗ fin false 1 (pos 9))
    (place_low (clamped x) (clamped_share x (less_number (1 * 2 ^ 31) 1 phase _ h (cast_held phase))))

-- as a lookup of the sine promises it, with the table lent
pub sine_within : (lut : List Float) (phase : Float) {r : Float} → r ≡ sine_of lut phase → lut ≡ lut_sine
    → is_nan phase ≡ false → T (within r)
sine_within lut phase q e h =
    subst (λ (x : Float). T (within x)) (sym (q ∙ ap (λ (l : List Float). sine_of l phase) e))
    (held_within (sine_of lut_sine phase) (sine_held phase h))
