-- A modulation lifted by 32 and times 2 ^ 26, by where the modulation lies: from -31 to 30 the product is a whole
-- number below 2 ^ 32. Sums and products grow with what they are made of, rounded too. Assumes nothing.
use mathlib.Core.Path.{◌≡◌, sym, subst}
use mathlib.Core.Bool.{Bool, true, false, cond}
use Prim.Native.Nat.{ℕ, ◌+◌, ◌*◌, ◌-◌, ◌^◌, ◌<◌, ◌≤◌}
use native.Mathlib.Nat.{le_trans, suc-mul, mul-le-mul_right}
use native.Mathlib.Omega.{arith}
use borrow.Author.Tests.{lt-ltb}
use lib.Dec.{T, ltb}
use lib.IntN.{pos}
use lib.Ieee.{Float, nan, inf, fin, binary32, up, down, lt, le, eq, add, sum, mul, round}
use lib.Ieee.Bits.{is_true}
use lib.Ieee.Fits.{down_pos}
use lib.Ieee.Order.{round_mono}
use lib.Ieee.Positive.{between, mul_mono}
use Rattle.numbers.specs.F32.{◌⊕◌, ◌⊗◌, decimal, minus_decimal}
use Rattle.sine.specs.Sine.{near_by}
use Rattle.numbers.proofs.Views.{no, both, or_le, or_ge, AtLeast, ge_inf, ge_fin, at_least, Under, lt_inf, lt_neg}
use Rattle.numbers.proofs.Views.{lt_fin}

-- the lift, the steps of a turn, and the ends of the lifted modulation
abbrev pub lift : Float
lift = fin false 1 (pos 5)

abbrev pub per_turn : Float
per_turn = fin false 1 (pos 26)

abbrev pub lowest : Float
lowest = fin false 1 (pos 0)

abbrev pub highest : Float
highest = fin false 31 (pos 1)

same_per_turn : T (le per_turn per_turn)
unfolding le lt eq
same_per_turn = tt

-- ---- the sum

unfoldable pub Within : Float → Type 0
Within l = T (le lowest l) × T (le l highest)

rounded_within : (a c : ℕ) → 0 < c → c ≤ a → a ≤ 62 * c → Within (round binary32 false a c)
unfolding Within round
rounded_within a c p h k = (round_mono binary32 1 1 a c (omega arith) p (omega arith), round_mono binary32 a c 62 1 p (omega arith) (omega arith))

lifted_within : (pm : Float) → le (fin true 31 (pos 0)) pm ≡ true → le pm (fin false 15 (pos 1)) ≡ true
    → Within (pm ⊕ lift)
unfolding add sum le lt eq
lifted_within nan h k = no h
lifted_within (inf true) h k = no h
lifted_within (inf false) h k = no k
lifted_within (fin false m e) h k =
    let z = or_le (m * up e * 1) (15 * 2 ^ 1 * down e) true k in
    rounded_within (m * up e * 1 + 1 * 2 ^ 5 * down e) (down e * 1) (let d =
    down_pos e in omega arith) (omega arith) (omega arith)
lifted_within (fin true m e) h k =
    let z = or_ge (31 * 1 * down e) (m * up e * 1) true h in
    let d = down_pos e in
    let l : ltb (m * up e * 1) (1 * 2 ^ 5 * down e) ≡ true = lt-ltb (m * up e * 1) (1 * 2 ^ 5 * down e) (omega arith) in
    subst (λ (b : Bool). Within (cond b (round binary32 false (1 * 2 ^ 5 * down e - m * up e * 1) (down e * 1)) (round binary32 (ltb (1 * 2 ^ 5 * down e) (m * up e * 1)) (m * up e * 1 - 1 * 2 ^ 5 * down e) (down e * 1)))) (sym l)
    (rounded_within (1 * 2 ^ 5 * down e - m * up e * 1) (down e * 1) (omega arith) (omega arith) (omega arith))

-- ---- the product

-- 31 * 2 ^ j at most, so below 2 ^ k
pub at_most : (j k : ℕ) → 31 * 2 ^ j < 2 ^ k → (x : Float) → le x (fin false 31 (pos j)) ≡ true → Under k x
unfolding le lt eq
at_most j k p nan h = no h
at_most j k p (inf true) h = lt_inf
at_most j k p (inf false) h = no h
at_most j k p (fin true m e) h = lt_neg m e
at_most j k p (fin false m e) h =
    let z = or_le (m * up e * 1) (31 * 2 ^ j * down e) true h in
    let d = down_pos e in
    let g : 31 * 2 ^ j * down e + down e ≤ 2 ^ k * down e = rw (← suc-mul (31 * 2 ^ j) (down e)) (mul-le-mul_right (down e) p) in
    lt_fin m e (omega arith)

-- 2 ^ k at least, so 2 ^ j at least
pub fewer : (j k : ℕ) → 2 ^ j ≤ 2 ^ k → (x : Float) → AtLeast k x → AtLeast j x
fewer j k p _ ge_inf = ge_inf
fewer j k p _ (ge_fin m e g) = ge_fin m e (le_trans (mul-le-mul_right (down e) p) g)

pub within_whole : (l : Float) → Within l → AtLeast 23 (l ⊗ per_turn)
unfolding Within mul round
within_whole l (h, k) =
    fewer 23 26 (omega arith) (l ⊗ per_turn) (at_least 26 (l ⊗ per_turn) (is_true (le (fin false 1 (pos 26)) (l ⊗ per_turn)) (mul_mono binary32 lowest l per_turn per_turn tt (between lowest l highest tt tt h k) tt tt h same_per_turn)))

pub within_below : (l : Float) → Within l → Under 32 (l ⊗ per_turn)
unfolding Within mul round
within_below l (h, k) = at_most 27 32 (omega arith) (l ⊗ per_turn) (is_true (le (l ⊗ per_turn) (fin false 31 (pos 27))) (mul_mono binary32 l highest per_turn per_turn (between lowest l highest tt tt h k) tt tt tt k same_per_turn))

-- ---- by the code's test

pub near_within : (pm : Float) → near_by pm ≡ true → Within (pm ⊕ lift)
unfolding near_by decimal minus_decimal
near_within pm h =
    let p = both (le (fin true 31 (pos 0)) pm) (le pm (fin false 15 (pos 1))) h in
    lifted_within pm p.0 p.1
