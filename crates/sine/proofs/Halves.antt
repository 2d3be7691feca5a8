-- A modulation from -31 to 30 turns, lifted by 32: times 2 ^ 25 it is a whole number below 2 ^ 31, half of what it is
-- times 2 ^ 26. Assumes nothing.
use mathlib.Core.Path.{◌≡◌, refl, sym, ap, ◌∙◌, subst}
use mathlib.Core.Bool.{true, false}
use Prim.Native.Nat.{ℕ, ◌*◌, ◌^◌, ◌<◌, ◌≤◌}
use native.Mathlib.Nat.{mul-le-mul_left, mul_assoc}
use native.Mathlib.Omega.{arith}
use lib.Dec.{T}
use lib.IntN.{pos, negsuc}
use lib.Pow.{pow_pos}
use lib.Ieee.{Float, fin, binary32, binary64, low, lt, le, eq, mul, round, fits, is_nan, to_unsigned, to_signed}
use lib.Ieee.{in_signed}
use lib.Ieee.Bits.{is_true}
use lib.Ieee.Exact.{HasValue}
use lib.Ieee.Fits.{mul-fits}
use lib.Ieee.Positive.{positive, num, den, den_pos, own_value, between, mul_at, mul_mono}
use lib.Ieee.Scale.{finite, normal_of_fraction}
use mir.Syntax.{w32}
use mir.Val.{to_z, of_z}
use mir.ValLaws.{to_z_pos}
use Rattle.numbers.specs.F32.{◌⊕◌, ◌⊗◌}
use Rattle.numbers.proofs.Views.{AtLeast, ge_inf, ge_fin, at_least, Under, lt_fin}
use Rattle.numbers.proofs.Casts.{no_fraction, digits_lt}
use Rattle.sine.specs.Sine.{near_by}
use Rattle.sine.proofs.Near.{lift, per_turn, lowest, highest, Within, at_most, fewer, near_within, within_whole}
use Rattle.sine.proofs.Near.{within_below}
use Rattle.sine.proofs.Turns.{value_no_nan, value_signed, value_in, value_cast, raised, at_least_one}
use Rattle.sine.proofs.Turns.{large_finite}

abbrev pub half : Float
half = fin false 1 (pos 25)

same_half : T (le half half)
unfolding le lt eq
same_half = tt

-- ---- where the product lies

half_whole : (l : Float) → Within l → AtLeast 23 (l ⊗ half)
unfolding Within mul round
half_whole l (h, k) =
    fewer 23 25 (omega arith) (l ⊗ half) (at_least 25 (l ⊗ half) (is_true (le (fin false 1 (pos 25)) (l ⊗ half)) (mul_mono binary32 lowest l half half tt (between lowest l highest tt tt h k) tt tt h same_half)))

half_below : (l : Float) → Within l → Under 31 (l ⊗ half)
unfolding Within mul round
half_below l (h, k) = at_most 26 31 (omega arith) (l ⊗ half) (is_true (le (l ⊗ half) (fin false 31 (pos 26))) (mul_mono binary32 l highest half half (between lowest l highest tt tt h k) tt tt tt k same_half))

-- ---- a whole number

data Whole : Float → Type 0 where
  is_whole : (x : Float) (n : ℕ) → n < 2 ^ 31 → HasValue x false n 1 → Whole x

whole : (x : Float) → T (fits binary32 x) → AtLeast 23 x → Under 31 x → Whole x
whole _ f ge_inf u = elim u [ ]
whole _ f (ge_fin m (negsuc k) g) u = absurd (no_fraction m k (digits_lt m (negsuc k) f) g)
whole _ f (ge_fin m (pos k) g) (lt_fin _ _ l) = is_whole (fin false m (pos k)) (m * 2 ^ k) (omega arith) (refl, refl)

half_finite : (x : Float) → AtLeast 23 x → Under 31 x → T (finite x)
half_finite _ ge_inf u = elim u [ ]
half_finite _ (ge_fin m e g) u = tt

normal : (n d u : ℕ) → d ≤ n → 0 < u → 2 ^ 23 * (d * 1) ≤ n * 2 ^ 25 * u
normal n d u h p = let z = mul-le-mul_left (n * 2 ^ 25) p in omega arith

module _ (l : Float) (p : T (positive l)) (h : den l ≤ num l) where
  halved_is : l ⊗ half ≡ round binary32 false (num l * 2 ^ 25) (den l * 1)
  halved_is =
      mul_at binary32 l half (num l) (den l) (2 ^ 25) 1 p tt (den_pos l) (omega arith) (own_value l p) (refl, refl)

  scaled_is : l ⊗ per_turn ≡ round binary32 false (num l * 2 ^ 25 * 2 ^ 1) (den l * 1)
  scaled_is =
      mul_at binary32 l per_turn (num l) (den l) (2 ^ 26) 1 p tt (den_pos l) (omega arith) (own_value l p) (refl, refl)
      ∙ ap (λ (n : ℕ). round binary32 false n (den l * 1)) (sym (mul_assoc (num l) (2 ^ 25) (2 ^ 1)))

  doubled : (n : ℕ) → T (finite (l ⊗ half)) → T (finite (l ⊗ per_turn)) → HasValue (l ⊗ half) false n 1
      → HasValue (l ⊗ per_turn) false (n * 2 ^ 1) 1
  doubled n s t v =
      let a = num l * 2 ^ 25 in
      let c = den l * 1 in
      let d : 0 < c = (let z = den_pos l in omega arith) in
      rw scaled_is
      (raised binary32 a c 1 n d (normal_of_fraction binary32 a c d (normal (num l) (den l) (2 ^ low binary32) h (pow_pos (low binary32))))
      (subst (λ (z : Float). T (finite z)) halved_is s) (subst (λ (z : Float). T (finite z)) scaled_is t)
      (subst (λ (z : Float). HasValue z false n 1) halved_is v))

-- ---- by the code's test

-- what the cast of the product with 2 ^ 25 takes, and gives
pub record Halved (x : Float) (steps : ℕ) : Type 0 where
  pub halves : ℕ
  pub no_nan : is_nan x ≡ false
  pub accepted : T (in_signed binary64 31 x)
  pub cast : to_z w32 (of_z w32 (to_signed 31 x)) ≡ pos halves
  pub small : halves < 2 ^ 31
  pub twice : steps ≡ halves * 2

pub near_halved : (pm : Float) → near_by pm ≡ true
    → Halved ((pm ⊕ lift) ⊗ half) (to_unsigned 32 ((pm ⊕ lift) ⊗ per_turn))
near_halved pm h = go (pm ⊕ lift) (near_within pm h)
  where
    go : (l : Float) → Within l → Halved (l ⊗ half) (to_unsigned 32 (l ⊗ per_turn))
    go l w = finish (whole (l ⊗ half) (mul-fits binary32 l half) (half_whole l w) (half_below l w))
      where
        finish : Whole (l ⊗ half) → Halved (l ⊗ half) (to_unsigned 32 (l ⊗ per_turn))
        finish (is_whole _ n b v) =
            let o = at_least_one l w in
            let t = doubled l o.0 o.1 n (half_finite (l ⊗ half) (half_whole l w) (half_below l w)) (large_finite (l ⊗ per_turn) (within_whole l w) (within_below l w)) v in
            record {
              halves = n;
              no_nan = value_no_nan (l ⊗ half) n v;
              accepted = value_in 31 n (l ⊗ half) v (omega arith) b;
              cast = rw (value_signed 31 n (l ⊗ half) v b) (to_z_pos w32 n b);
              small = b;
              twice = value_cast 32 (n * 2 ^ 1) (l ⊗ per_turn) t (omega arith);
            }
