-- Bounds on what the ratio computes: each rounding keeps the order, so that a pitch stays from 8 to 248, and 256 times
-- its part past the whole number below 256. Assumes nothing.
use mathlib.Core.Path.{◌≡◌, refl, sym, ◌∙◌, ap, subst}
use mathlib.Core.Bool.{Bool, true, false}
use mathlib.Core.List.{List}
use Prim.Native.Nat.{ℕ, suc, ◌+◌, ◌-◌, ◌*◌, ◌/◌, ◌%◌, ◌^◌, ◌≤◌, ◌<◌}
use native.Mathlib.Nat.{mul-one, mul_assoc, mul_right_comm, add-mul, mul-le-mul, mul-le-mul_right, div-lt_iff_lt-mul}
use native.Mathlib.Nat.{div-add-mod', mod-lt}
use native.Mathlib.Omega.{arith}
use borrow.Author.Tests.{lt-ltb, le-ltb, leb-true, leb-false}
use lib.Dec.{T, leb}
use lib.IntN.{ℤ, pos, negsuc}
use lib.ListN.{get_or}
use lib.Pow.{pow_mono}
use lib.Ieee.Bits.{is_true}
use lib.Ieee.Exact.{HasValue}
use lib.Ieee.Back.{round_whole}
use lib.Ieee.Order.{round_mono}
use lib.Ieee.Fits.{down_pos, round-fits, and_l, and_r}
use lib.Ieee.{Float, nan, inf, fin, binary32, up, down, lt, le, eq, fits, neg, add, sub, mul, sum, round}
use lib.Ieee.{of_int, to_unsigned}
use Rattle.numbers.proofs.Views.{no, on, or_le, or_ge}
use Rattle.numbers.proofs.Casts.{digits_lt}
use Rattle.numbers.proofs.Rounded.{Plus, Upto, upto, upto_at, round_plus}
use Rattle.numbers.specs.F32.{◌⊕◌, ◌⊖◌, ◌⊗◌, decimal, minus_decimal, as_float}
use Rattle.units.specs.Ratio.{within, past_whole, ratio_in}

-- ---- between -c and c, c a whole number M * 2 ^ j

pub data Sized (c : ℕ) : Float → Type 0 where
  sized : (s : Bool) (m : ℕ) (e : ℤ) → m * up e ≤ c * down e → Sized c (fin s m e)

pub is_sized : (M j : ℕ) (x : Float) → le (fin true M (pos j)) x ≡ true → le x (fin false M (pos j)) ≡ true
    → Sized (M * 2 ^ j) x
unfolding le lt eq
is_sized M j nan g h = no h
is_sized M j (inf true) g h = no g
is_sized M j (inf false) g h = no h
is_sized M j (fin false m e) g h = sized false m e (rw mul-one at (or_le (m * up e * 1) (M * 2 ^ j * down e) true h))
is_sized M j (fin true m e) g h = sized true m e (rw mul-one at (or_ge (M * 2 ^ j * down e) (m * up e * 1) true g))

-- ---- the pitch: x + 128

pub data Ratio (lo hi : ℕ) : Float → Type 0 where
  ratio : (n d : ℕ) → 0 < d → lo * d ≤ n → n ≤ hi * d → Ratio lo hi (round binary32 false n d)

pub pitch_ratio : (x : Float) → Sized 120 x → Ratio 8 248 (add binary32 x (fin false 1 (pos 7)))
unfolding add sum
pitch_ratio _ (sized false m e h) =
    ratio (m * up e * 1 + 128 * down e) (down e * 1) (let p = down_pos e in omega arith) (omega arith) (omega arith)
pitch_ratio _ (sized true m e h) =
    let p = down_pos e in
    rw (lt-ltb (m * up e * 1) (128 * down e) (omega arith))
    (ratio (128 * down e - m * up e * 1) (down e * 1) (omega arith) (omega arith) (omega arith))

-- what is known of a pitch: m * 2 ^ e, from 8 to 248
pub data Pitch : Float → Type 0 where
  pitch : (m : ℕ) (e : ℤ) → T (fits binary32 (fin false m e)) → 8 * down e ≤ m * up e → m * up e ≤ 248 * down e
      → Pitch (fin false m e)

at_least_8 : (m : ℕ) (e : ℤ) → le (fin false 1 (pos 3)) (fin false m e) ≡ true → 8 * down e ≤ m * up e
unfolding le lt eq
at_least_8 m e h = rw mul-one at (or_le (8 * down e) (m * up e * 1) true h)

pitch_of : (y : Float) → T (fits binary32 y) → Plus y → le (fin false 1 (pos 3)) y ≡ true → Upto 248 1 y → Pitch y
pitch_of _ f p l (upto m e u) = pitch m e f (at_least_8 m e l) (rw mul-one at u)

pub is_pitch : (y : Float) → Ratio 8 248 y → Pitch y
unfolding round
is_pitch _ (ratio n d p l h) =
    let y = round binary32 false n d in
    pitch_of y (round-fits binary32 false n d) (round_plus n d)
    (is_true _ (round_mono binary32 8 1 n d (omega arith) p (omega arith)))
    (upto_at 31 (pos 3) y (round_plus n d) (is_true _ (round_mono binary32 n d 248 1 p (omega arith) (omega arith))))

-- its whole part is an index of 256 entries
pub whole_of : (m : ℕ) (e : ℤ) → m * up e ≤ 248 * down e
    → (m * up e / down e ≤ 248) × (to_unsigned 64 (fin false m e) ≡ m * up e / down e)
unfolding to_unsigned
whole_of m e h =
    let q : m * up e / down e < 249 = (div-lt_iff_lt-mul (down_pos e)).1 (let p = down_pos e in omega arith) in
    (omega arith, omega arith)

pub whole_lt : (y : Float) → Pitch y → to_unsigned 64 y < 256
whole_lt _ (pitch m e f l h) = let w = whole_of m e h in omega (arith, w.0, w.1)

-- ---- the part past the whole number, and 256 times it

-- a pitch of 8 or more has at most 20 digits past the point
coarse : (m : ℕ) (e : ℤ) → m < 2 ^ 24 → 8 * down e ≤ m * up e → down e ≤ 2 ^ 20
coarse m (pos k) h l = omega arith
coarse m (negsuc k) h l = go (leb 21 (suc k)) refl
  where
    go : (b : Bool) → leb 21 (suc k) ≡ b → 2 ^ suc k ≤ 2 ^ 20
    go true t = let p : 2 ^ 21 ≤ 2 ^ suc k = pow_mono (leb-true 21 (suc k) t) in let q : ⊥ = omega arith in absurd q
    go false t = let a = leb-false 21 (suc k) t in let b : suc k ≤ 20 = omega arith in pow_mono b

-- y has R = U - n * E of E parts past n, with F as a common factor
past : (U E F n Q : ℕ) → Q * 1 ≡ n * F → n * E ≤ U → U - n * E < E → E ≤ 2 ^ 20
    → (Q * E ≤ U * F) × ((U * F - Q * E) * 2 ^ 20 ≤ 1048575 * (E * F))
past U E F n Q v l r t =
    let R : ℕ = U - n * E in
    let u : U ≡ n * E + R = omega arith in
    let a : U * F ≡ n * E * F + R * F = ap (λ (x : ℕ). x * F) u ∙ add-mul (n * E) R F in
    let q : Q ≡ n * F = omega arith in
    let b : Q * E ≡ n * E * F = ap (λ (x : ℕ). x * E) q ∙ mul_right_comm n F E in
    let w : R * 2 ^ 20 ≤ 1048575 * E = omega arith in
    let x : R * 2 ^ 20 * F ≤ 1048575 * E * F = mul-le-mul_right F w in
    let y : R * 2 ^ 20 * F ≡ R * F * 2 ^ 20 = mul_right_comm R (2 ^ 20) F in
    let z : 1048575 * E * F ≡ 1048575 * (E * F) = mul_assoc 1048575 E F in
    (omega (arith, a, b), omega (arith, a, b, x, y, z))

-- z is the whole number n: y - z is a rounding of what y has past n
part_ratio : (m : ℕ) (e : ℤ) (z : Float) (n : ℕ) → HasValue z false n 1 → n * down e ≤ m * up e
    → m * up e - n * down e < down e → down e ≤ 2 ^ 20
    → (c : ℕ) × (d : ℕ) × (0 < d) × (c * 2 ^ 20 ≤ 1048575 * d)
    × (sub binary32 (fin false m e) z ≡ round binary32 false c d)
unfolding sub add neg sum
part_ratio m e nan n v l r t = absurd v
part_ratio m e (inf s) n v l r t = absurd v
part_ratio m e (fin true q d) n v l r t = on v.0
part_ratio m e (fin false q d) n v l r t =
    let p = past (m * up e) (down e) (down d) n (q * up d) v.1 l r t in (
      m * up e * down d - q * up d * down e,
      down e * down d,
      mul-le-mul (down_pos e) (down_pos d),
      p.1,
      simp (le-ltb (m * up e * down d) (q * up d * down e) p.0),
    )

-- 256 times a part below 1 - 2 ^ -20
times : (y : Float) → Upto 1048575 (2 ^ 20) y → (c : ℕ) × (d : ℕ) × (0 < d) × (c * 2 ^ 12 ≤ 1048575 * d) × (mul binary32 y (fin false 1 (pos 8)) ≡ round binary32 false c d)
unfolding mul
times _ (upto m e h) = (m * up e * 256, down e * 1, (let p = down_pos e in omega arith), omega arith, refl)

under : (z : Float) → Upto 1048575 (2 ^ 12) z → to_unsigned 64 z < 256
unfolding to_unsigned
under _ (upto m e h) =
    let q : m * up e / down e < 256 = (div-lt_iff_lt-mul (down_pos e)).1 (let p = down_pos e in omega arith) in
    omega arith

part_upto : (y : Float) (c d : ℕ) → 0 < d → c * 2 ^ 20 ≤ 1048575 * d → y ≡ round binary32 false c d
    → Upto 1048575 (2 ^ 20) y
unfolding round
part_upto y c d p h e =
    subst (Upto 1048575 (2 ^ 20)) (sym e)
    (upto_at 1048575 (negsuc 19) (round binary32 false c d) (round_plus c d) (is_true _ (round_mono binary32 c d 1048575 (2 ^ 20) p (omega arith) h)))

fine_upto : (y : Float) (c d : ℕ) → 0 < d → c * 2 ^ 12 ≤ 1048575 * d → y ≡ round binary32 false c d
    → Upto 1048575 (2 ^ 12) y
unfolding round
fine_upto y c d p h e =
    subst (Upto 1048575 (2 ^ 12)) (sym e)
    (upto_at 1048575 (negsuc 11) (round binary32 false c d) (round_plus c d) (is_true _ (round_mono binary32 c d 1048575 (2 ^ 12) p (omega arith) h)))

pub fine_lt : (y : Float) → Pitch y → to_unsigned 64 (mul binary32 (past_whole y) (fin false 1 (pos 8))) < 256
unfolding of_int
fine_lt _ (pitch m e f l h) =
    let n = m * up e / down e in
    let w = whole_of m e h in
    let v : HasValue (round binary32 false n 1) false n 1 = round_whole binary32 false n (omega (arith, w.0)) in
    let g : n * down e + m * up e % down e ≡ m * up e = div-add-mod' (m * up e) (down e) in
    let r = mod-lt (m * up e) (down_pos e) in
    let q = coarse m e (digits_lt m e f) l in
    let p = part_ratio m e (round binary32 false n 1) n v (omega arith) (omega arith) q in
    let u = part_upto (sub binary32 (fin false m e) (round binary32 false n 1)) p.0 p.1 p.2 p.3 p.4 in
    let t = times (sub binary32 (fin false m e) (round binary32 false n 1)) u in
    let z : to_unsigned 64 (mul binary32 (sub binary32 (fin false m e) (round binary32 false n 1)) (fin false 1 (pos 8))) < 256 =
    under _
    (fine_upto (mul binary32 (sub binary32 (fin false m e) (round binary32 false n 1)) (fin false 1 (pos 8))) t.0 t.1 t.2 t.3 t.4) in
    subst (λ (k : ℕ). to_unsigned 64 (mul binary32 (sub binary32 (fin false m e) (round binary32 false k 1)) (fin false 1 (pos 8))) < 256) (sym w.1) z

-- ---- both indexes, for semitones from -120 to 120

is_pitch_of : (s : Float) → T (within 120 s) → Pitch (s ⊕ decimal 128 0)
unfolding within decimal minus_decimal
is_pitch_of s h =
    let a = le (fin true 15 (pos 3)) s in
    let b = le s (fin false 15 (pos 3)) in
    is_pitch (s ⊕ fin false 1 (pos 7))
    (pitch_ratio s (is_sized 15 3 s (is_true a (and_l a b h)) (is_true b (and_r a b h))))

module _ (s : Float) (w : ℕ) (ew : w ≡ to_unsigned 64 (s ⊕ decimal 128 0)) where
  pub whole_index : T (within 120 s) → w < 256
  whole_index h = rw ew (whole_lt (s ⊕ decimal 128 0) (is_pitch_of s h))

  module _ (k : ℕ) (ek : k ≡ to_unsigned 64 ((s ⊕ decimal 128 0 ⊖ as_float w) ⊗ decimal 256 0)) where
    pub fine_index : T (within 120 s) → k < 256
    unfolding decimal
    fine_index h = rw (ek, ew) (fine_lt (s ⊕ decimal 128 0) (is_pitch_of s h))

    pub entries : (high low : List Float) → get_or high w nan ⊗ get_or low k nan ≡ ratio_in high low s
    unfolding ratio_in
    entries high low = simp (ek, ew)
