-- A modulation from -31 to 30 turns, lifted by 32: times 2 ^ 32 it is whole, and 64 times what it is times 2 ^ 26,
-- since a power of two moves the exponent alone. Assumes nothing.
use mathlib.Core.Path.{◌≡◌, refl, sym, ap, ◌∙◌, subst}
use mathlib.Core.Bool.{true, false, ◌&&◌}
use Prim.Native.Nat.{ℕ, ◌*◌, ◌/◌, ◌%◌, ◌^◌, ◌<◌, ◌≤◌}
use native.Mathlib.Nat.{mul-le-mul_left, mul_assoc, mul-one, mul_right_comm, mul-div_cancel, mul-mod_left}
use native.Mathlib.Nat.{eq_of_mul-eq-mul_right}
use native.Mathlib.Omega.{arith}
use lib.Dec.{T, leb, ltb, lt→ltb, le→leb}
use lib.IntN.{ℤ, pos, negsuc}
use lib.Pow.{pow_pos}
use lib.Ieee.{Float, nan, inf, fin, Format, binary32, binary64, prec, low, size, up, down, lt, le, eq, mul, round, fits}
use lib.Ieee.{is_nan, whole, to_unsigned, to_signed, in_signed}
use lib.Ieee.Exact.{HasValue}
use lib.Ieee.Fits.{and_i, down_pos, mul-fits}
use lib.Ieee.Positive.{positive, num, den, den_pos, own_value, between, positive-finite, le→cross, mul_at, mul_mono}
use lib.Ieee.Scale.{finite, grid, round_val, round_under, grid_scale, normal_of_fraction}
use mir.Syntax.{w64}
use mir.Val.{to_z, of_z}
use mir.ValLaws.{to_z_pos}
use Rattle.numbers.specs.F32.{◌⊕◌, ◌⊗◌}
use Rattle.numbers.proofs.Views.{on, AtLeast, ge_inf, ge_fin, Under, lt_fin}
use Rattle.numbers.proofs.Casts.{no_fraction, digits_lt}
use Rattle.sine.specs.Sine.{near_by}
use Rattle.sine.proofs.Near.{lift, per_turn, lowest, highest, Within, near_within, within_whole, within_below}

-- a turn in the phase's steps
abbrev pub turn : Float
turn = fin false 1 (pos 32)

-- ---- what a whole number is cast to

pub value_no_nan : (x : Float) (n : ℕ) → HasValue x false n 1 → is_nan x ≡ false
unfolding is_nan
value_no_nan nan n v = absurd v
value_no_nan (inf s) n v = absurd v
value_no_nan (fin s m e) n v = refl

quotient : (m n : ℕ) (e : ℤ) → m * up e * 1 ≡ n * down e → (m * up e / down e ≡ n) × (m * up e % down e ≡ 0)
quotient m n e v =
    let w : m * up e ≡ n * down e = sym (mul-one (m * up e)) ∙ v in
    rw w (mul-div_cancel n (down_pos e), mul-mod_left n (down e))

pub value_cast : (w n : ℕ) (x : Float) → HasValue x false n 1 → n < 2 ^ w → to_unsigned w x ≡ n
unfolding to_unsigned
value_cast w n nan v h = absurd v
value_cast w n (inf s) v h = absurd v
value_cast w n (fin true m e) v h = on v.0
value_cast w n (fin false m e) v h = rw (quotient m n e v.1).0 (omega arith)

pub value_signed : (h n : ℕ) (x : Float) → HasValue x false n 1 → n < 2 ^ h → to_signed h x ≡ pos n
unfolding to_signed
value_signed h n nan v b = absurd v
value_signed h n (inf s) v b = absurd v
value_signed h n (fin true m e) v b = on v.0
value_signed h n (fin false m e) v b = rw (quotient m n e v.1).0 (ap pos (omega arith))

pub value_in : (w n : ℕ) (x : Float) → HasValue x false n 1 → n ≤ 2 ^ 53 → n < 2 ^ w → T (in_signed binary64 w x)
unfolding in_signed whole
value_in w n nan v k h = absurd v
value_in w n (inf s) v k h = absurd v
value_in w n (fin true m e) v k h = on v.0
value_in w n (fin false m e) v k h =
    let q = quotient m n e v.1 in
    rw (q.0, q.1) (and_i (true && leb n (2 ^ 53) && true) (true && ltb n (2 ^ w)) (and_i (leb n (2 ^ 53)) true (le→leb n (2 ^ 53) k) tt) (lt→ltb n (2 ^ w) h))

-- ---- a power of two moves the exponent alone

-- two fractions that a float equals
same_value : (x : Float) (n g d : ℕ) → HasValue x false n 1 → HasValue x false g d → n * d ≡ g
same_value nan n g d v w = absurd v
same_value (inf s) n g d v w = absurd v
same_value (fin s m e) n g d v w =
    eq_of_mul-eq-mul_right (down e) (down_pos e) (n * d) g
    (mul_right_comm n d (down e) ∙ ap (λ (z : ℕ). z * d) (sym v.1 ∙ mul-one (m * up e)) ∙ w.1)

-- over a common factor
lowered : (x : Float) (n d : ℕ) → 0 < d → HasValue x false (n * d) d → HasValue x false n 1
lowered nan n d p v = absurd v
lowered (inf s) n d p v = absurd v
lowered (fin s m e) n d p v =
    (v.0, mul-one (m * up e) ∙ eq_of_mul-eq-mul_right d p (m * up e) (n * down e) (v.1 ∙ mul_right_comm n d (down e)))

-- a whole number in the normal range, and 2 ^ t times as much
pub raised : (f : Format) (a c t n : ℕ) → 0 < c → prec f ≤ size (a * 2 ^ low f / c) → T (finite (round f false a c))
    → T (finite (round f false (a * 2 ^ t) c))
    → HasValue (round f false a c) false n 1 → HasValue (round f false (a * 2 ^ t) c) false (n * 2 ^ t) 1
raised f a c t n p q s r v =
    let x = round f false a c in
    let y = round f false (a * 2 ^ t) c in
    let d = 2 ^ low f in
    let g = same_value x n (grid f a c) d v (round_val f a c (round_under f a c s)) in
    let w = round_val f (a * 2 ^ t) c (round_under f (a * 2 ^ t) c r) in
    let e : grid f (a * 2 ^ t) c ≡ n * 2 ^ t * d = grid_scale f a c t p q ∙ ap (λ (z : ℕ). z * 2 ^ t) (sym g) ∙ mul_right_comm n d (2 ^ t) in
    lowered y (n * 2 ^ t) d (pow_pos (low f)) (subst (λ (z : ℕ). HasValue y false z d) e w)

-- ---- the two products

-- an f32 of 2 ^ 23 or more and below 2 ^ 32 is a whole number
data Whole : Float → Type 0 where
  is_whole : (x : Float) (n : ℕ) → n < 2 ^ 32 → HasValue x false n 1 → Whole x

large_whole : (x : Float) → T (fits binary32 x) → AtLeast 23 x → Under 32 x → Whole x
large_whole _ f ge_inf u = elim u [ ]
large_whole _ f (ge_fin m (negsuc k) g) u = absurd (no_fraction m k (digits_lt m (negsuc k) f) g)
large_whole _ f (ge_fin m (pos k) g) (lt_fin _ _ l) =
    is_whole (fin false m (pos k)) (m * 2 ^ k) (omega arith) (refl, refl)

pub large_finite : (x : Float) → AtLeast 23 x → Under 32 x → T (finite x)
large_finite _ ge_inf u = elim u [ ]
large_finite _ (ge_fin m e g) u = tt

same_turn : T (le turn turn)
unfolding le lt eq
same_turn = tt

turn_finite : (l : Float) → Within l → T (finite (l ⊗ turn))
unfolding Within mul round
turn_finite l (h, k) =
    let p = between lowest l highest tt tt h k in
    positive-finite (l ⊗ turn)
    (between (lowest ⊗ turn) (l ⊗ turn) (highest ⊗ turn) tt tt (mul_mono binary32 lowest l turn turn tt p tt tt h same_turn) (mul_mono binary32 l highest turn turn p tt tt tt k same_turn))

pub at_least_one : (l : Float) → Within l → T (positive l) × (den l ≤ num l)
unfolding Within
at_least_one l (h, k) =
    let p = between lowest l highest tt tt h k in
    (p, let z = le→cross lowest l tt p h in omega arith)

-- such a product is far from the smallest numbers of the format
normal : (n d u : ℕ) → d ≤ n → 0 < u → 2 ^ 23 * (d * 1) ≤ n * 2 ^ 26 * u
normal n d u h p = let z = mul-le-mul_left (n * 2 ^ 26) p in omega arith

module _ (l : Float) (p : T (positive l)) (h : den l ≤ num l) where
  scaled_is : l ⊗ per_turn ≡ round binary32 false (num l * 2 ^ 26) (den l * 1)
  scaled_is =
      mul_at binary32 l per_turn (num l) (den l) (2 ^ 26) 1 p tt (den_pos l) (omega arith) (own_value l p) (refl, refl)

  turned_is : l ⊗ turn ≡ round binary32 false (num l * 2 ^ 26 * 2 ^ 6) (den l * 1)
  turned_is =
      mul_at binary32 l turn (num l) (den l) (2 ^ 32) 1 p tt (den_pos l) (omega arith) (own_value l p) (refl, refl)
      ∙ ap (λ (n : ℕ). round binary32 false n (den l * 1)) (sym (mul_assoc (num l) (2 ^ 26) (2 ^ 6)))

  turned_value : (n : ℕ) → T (finite (l ⊗ per_turn)) → T (finite (l ⊗ turn)) → HasValue (l ⊗ per_turn) false n 1
      → HasValue (l ⊗ turn) false (n * 2 ^ 6) 1
  turned_value n s t v =
      let a = num l * 2 ^ 26 in
      let c = den l * 1 in
      let d : 0 < c = (let z = den_pos l in omega arith) in
      rw turned_is
      (raised binary32 a c 6 n d (normal_of_fraction binary32 a c d (normal (num l) (den l) (2 ^ low binary32) h (pow_pos (low binary32))))
      (subst (λ (z : Float). T (finite z)) scaled_is s) (subst (λ (z : Float). T (finite z)) turned_is t)
      (subst (λ (z : Float). HasValue z false n 1) scaled_is v))

-- ---- by the code's test

-- what the cast of the product with 2 ^ 32 takes, and gives
pub record Turned (x : Float) (steps : ℕ) : Type 0 where
  pub no_nan : is_nan x ≡ false
  pub accepted : T (in_signed binary64 63 x)
  pub cast : to_z w64 (of_z w64 (to_signed 63 x)) ≡ pos (steps * 64)
  pub small : steps * 64 < 2 ^ 64

pub near_turned : (pm : Float) → near_by pm ≡ true
    → Turned ((pm ⊕ lift) ⊗ turn) (to_unsigned 32 ((pm ⊕ lift) ⊗ per_turn))
near_turned pm h = go (pm ⊕ lift) (near_within pm h)
  where
    go : (l : Float) → Within l → Turned (l ⊗ turn) (to_unsigned 32 (l ⊗ per_turn))
    go l w = finish (large_whole (l ⊗ per_turn) (mul-fits binary32 l per_turn) (within_whole l w) (within_below l w))
      where
        finish : Whole (l ⊗ per_turn) → Turned (l ⊗ turn) (to_unsigned 32 (l ⊗ per_turn))
        finish (is_whole _ n b v) =
            let o = at_least_one l w in
            let t = turned_value l o.0 o.1 n (large_finite (l ⊗ per_turn) (within_whole l w) (within_below l w)) (turn_finite l w) v in
            let e = value_cast 32 n (l ⊗ per_turn) v b in
            record {
              no_nan = value_no_nan (l ⊗ turn) (n * 2 ^ 6) t;
              accepted = value_in 63 (n * 2 ^ 6) (l ⊗ turn) t (omega arith) (omega arith);
              cast =
                  rw (value_signed 63 (n * 2 ^ 6) (l ⊗ turn) t (omega arith), e) (to_z_pos w64 (n * 64) (omega arith));
              small = rw e (omega arith);
            }
