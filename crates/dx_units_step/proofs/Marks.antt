-- Each mark stands exactly where the request says, and the step is what its mark says. Assumes nothing.
use mathlib.Core.Path.{◌≡◌, refl, sym, ap, ◌∙◌}
use mathlib.Core.Bool.{Bool, true, false, cond, ◌||◌}
use Prim.Native.Nat.{ℕ, zero, suc, ◌+◌, ◌*◌, ◌^◌}
use native.Mathlib.Omega.{arith}
use borrow.Author.Tests.{ltb-true, ltb-false, eqb-true, eq-eqb, lt-ltb, le-ltb}
use lib.Dec.{eqb, ltb}
use lib.Ieee.{Float, nan, inf, fin, binary32, lt, le, eq, is_nan, mul, to_unsigned, up, down}
use lib.Ieee.{low, emax, odd, units, round}
use lib.Ieee.Bits.{is_true}
use lib.Ieee.Fits.{down_pos, round_is}
use Rattle.numbers.specs.F32.{◌⊗◌, decimal}
use Rattle.numbers.specs.Extremes.{minimum}
use Rattle.numbers.proofs.Views.{no, on, both, or_le}
use Rattle.numbers.proofs.Casts.{le_or}
use Rattle.dx_units_step.specs.declared.Mark.{Mark}
use Rattle.dx_units_step.specs.declared.Mark.TheVariants.{AsAsked, HeldAtTop, HeldAtZero}
use Rattle.dx_units_step.specs.Step.{step_for, mark_for}

-- ---- a mark by its two tests

abbrev by : Bool → Bool → Mark
by top under = cond top HeldAtTop (cond under HeldAtZero AsAsked)

abbrev is_top : Mark → Bool
is_top AsAsked = false
is_top HeldAtTop = true
is_top HeldAtZero = false

abbrev is_zero : Mark → Bool
is_zero AsAsked = false
is_zero HeldAtTop = false
is_zero HeldAtZero = true

by_top : (a b : Bool) → by a b ≡ HeldAtTop → a ≡ true
by_top true b e = refl
by_top false true e = no (ap is_top e)
by_top false false e = no (ap is_top e)

by_zero : (a b : Bool) → by a b ≡ HeldAtZero → (a ≡ false) × (b ≡ true)
by_zero true b e = no (ap is_zero e)
by_zero false true e = (refl, refl)
by_zero false false e = no (ap is_zero e)

by_none : (a b : Bool) → by a b ≡ AsAsked → (a ≡ false) × (b ≡ false)
by_none true b e = on (ap is_top e)
by_none false true e = on (ap is_zero e)
by_none false false e = (refl, refl)

-- ---- how the tests lie to each other

-- what is below 0 is neither above 0.5 nor a NaN
below_zero : (x : Float) → lt x (decimal 0 0) ≡ true → (lt (decimal 5 1) x || is_nan x) ≡ false
unfolding decimal lt is_nan
below_zero nan h = no h
below_zero (inf true) h = refl
below_zero (inf false) h = no h
below_zero (fin true m e) h = refl
below_zero (fin false m e) h = let z = ltb-true (m * up e * 1) (0 * 2 ^ 0 * down e) h in absurd (omega arith)

-- from 0 to 0.5 neither test holds
within : (x : Float) → le (decimal 0 0) x ≡ true → le x (decimal 5 1) ≡ true
    → ((lt (decimal 5 1) x || is_nan x) ≡ false) × (lt x (decimal 0 0) ≡ false)
unfolding decimal le lt eq is_nan
within nan h k = no h
within (inf true) h k = no h
within (inf false) h k = no k
within (fin true m e) h k =
    let a = m * up e * 1 in
    let b = 0 * 2 ^ 0 * down e in
    let z = eqb-true b a (both (eqb b a) (eqb b 0) h).0 in
    (refl, le-ltb 0 (a + b) (omega arith))
within (fin false m e) h k =
    let a = m * up e * 2 ^ 1 in
    let b = 1 * 1 * down e in
    let c = 0 * 2 ^ 0 * down e in
    let top : ltb b a ≡ false = le-ltb b a (or_le a b true k) in
    (rw top refl, le-ltb (m * up e * 1) c (omega arith))

-- and where neither holds it is from 0 to 0.5
neither : (x : Float) → (lt (decimal 5 1) x || is_nan x) ≡ false → lt x (decimal 0 0) ≡ false
    → (le (decimal 0 0) x ≡ true) × (le x (decimal 5 1) ≡ true)
unfolding decimal le lt eq is_nan
neither nan h k = on h
neither (inf true) h k = on k
neither (inf false) h k = on h
neither (fin true m e) h k =
    let a = m * up e * 1 in
    let b = 0 * 2 ^ 0 * down e in
    let c = m * up e * 2 ^ 1 in
    let d = 1 * 1 * down e in
    let z = ltb-false 0 (a + b) k in
    let p = down_pos e in
    let same : eqb b a ≡ true = eq-eqb b a (omega arith) in
    let none : eqb b 0 ≡ true = eq-eqb b 0 (omega arith) in
    let some : ltb 0 (c + d) ≡ true = lt-ltb 0 (c + d) (omega arith) in
    (rw (same, none) refl, rw some refl)
neither (fin false m e) h k =
    let a = m * up e * 2 ^ 1 in
    let b = 1 * 1 * down e in
    let c = 0 * 2 ^ 0 * down e in
    let z = ltb-false b a (left (ltb b a) h) in
    (is_true _ (le_or c (m * up e * 1) (omega arith)), is_true _ (le_or a b z))
  where
    left : (b : Bool) → (b || false) ≡ false → b ≡ false
    left true e = on e
    left false e = refl

-- ---- each mark, both ways

module _ (x : Float) where
  abbrev top : Bool
  top = lt (decimal 5 1) x || is_nan x

  abbrev under : Bool
  under = lt x (decimal 0 0)

  -- held at the top: above 0.5, or a NaN
  pub top_where : mark_for x ≡ HeldAtTop → (lt (decimal 5 1) x || is_nan x) ≡ true
  unfolding mark_for
  top_where e = by_top top under e

  pub top_there : (lt (decimal 5 1) x || is_nan x) ≡ true → mark_for x ≡ HeldAtTop
  unfolding mark_for
  top_there h = rw h refl

  -- held at zero: below 0
  pub zero_where : mark_for x ≡ HeldAtZero → lt x (decimal 0 0) ≡ true
  unfolding mark_for
  zero_where e = (by_zero top under e).1

  pub zero_there : lt x (decimal 0 0) ≡ true → mark_for x ≡ HeldAtZero
  unfolding mark_for
  zero_there h = rw (below_zero x h, h) refl

  -- as asked: from 0 to 0.5, both included
  pub asked_where : mark_for x ≡ AsAsked → (le (decimal 0 0) x ≡ true) × (le x (decimal 5 1) ≡ true)
  unfolding mark_for
  asked_where e = let n = by_none top under e in neither x n.0 n.1

  pub asked_there : le (decimal 0 0) x ≡ true → le x (decimal 5 1) ≡ true → mark_for x ≡ AsAsked
  unfolding mark_for
  asked_there h k = let n = within x h k in rw (n.0, n.1) refl

-- ---- by the tests of a program, in which only a NaN differs from itself

module _ (x : Float) where
  pub tested_top : (lt (decimal 5 1) x || is_nan x) ≡ true → HeldAtTop ≡ mark_for x
  tested_top h = sym (top_there x h)

  module _ (not_top : (lt (decimal 5 1) x || is_nan x) ≡ false) where
    pub tested_zero : lt x (decimal 0 0) ≡ true → HeldAtZero ≡ mark_for x
    tested_zero h = sym (zero_there x h)

    pub tested_asked : lt x (decimal 0 0) ≡ false → AsAsked ≡ mark_for x
    unfolding mark_for
    tested_asked h = rw (not_top, h) refl

-- ---- and the step

held : (a b : Bool) (x y : Float) → (a || b) ≡ true → cond b y (cond a y x) ≡ y
held true true x y h = refl
held true false x y h = refl
held false true x y h = refl
held false false x y h = no h

free : (a b : Bool) (x y : Float) → (a || b) ≡ false → cond b y (cond a y x) ≡ x
free true b x y h = on h
free false true x y h = on h
free false false x y h = refl

-- a negative number as u32 is 0, however it was rounded
negative_units : (q k : ℕ) → to_unsigned 32 (units binary32 true q k) ≡ 0
unfolding units odd to_unsigned
negative_units q k = go (ltb (q * 2 ^ k) (2 ^ (low binary32 + suc (emax binary32)))) q
  where
    whole : (q : ℕ) → to_unsigned 32 (odd 25 true q k (low binary32)) ≡ 0
    whole zero = refl
    whole (suc q) = refl

    go : (b : Bool) (q : ℕ) → to_unsigned 32 (cond b (odd 25 true q k (low binary32)) (inf true)) ≡ 0
    go true q = whole q
    go false q = refl

negative_round : (a b : ℕ) → to_unsigned 32 (round binary32 true a b) ≡ 0
negative_round a b = ap (to_unsigned 32) (round_is binary32 true a b) ∙ negative_units _ _

negative_product : (x : Float) → lt x (decimal 0 0) ≡ true → to_unsigned 32 (x ⊗ decimal 4294967296 0) ≡ 0
unfolding decimal lt mul to_unsigned
negative_product nan h = no h
negative_product (inf true) h = refl
negative_product (inf false) h = no h
negative_product (fin true m e) h = negative_round (m * up e * (1 * 2 ^ 32)) (down e * 1)
negative_product (fin false m e) h = let z = ltb-true (m * up e * 1) (0 * 2 ^ 0 * down e) h in absurd (omega arith)

half_step : to_unsigned 32 (decimal 5 1 ⊗ decimal 4294967296 0) ≡ 2 ^ 31
unfolding decimal mul to_unsigned
half_step = refl

module _ (x : Float) where
  abbrev times : Float → ℕ
  times y = to_unsigned 32 (y ⊗ decimal 4294967296 0)

  -- held at the top, it is that of a half
  pub top_step : mark_for x ≡ HeldAtTop → step_for x ≡ 2 ^ 31
  unfolding step_for minimum
  top_step e = ap times (held (lt (decimal 5 1) x) (is_nan x) x (decimal 5 1) (top_where x e)) ∙ half_step

  -- as asked, it is the frequency's own
  pub asked_step : mark_for x ≡ AsAsked → step_for x ≡ to_unsigned 32 (x ⊗ decimal 4294967296 0)
  unfolding step_for minimum mark_for
  asked_step e =
      ap times (free (lt (decimal 5 1) x) (is_nan x) x (decimal 5 1)
      (by_none (lt (decimal 5 1) x || is_nan x) (lt x (decimal 0 0)) e).0)

  -- held at zero, it is 0
  pub zero_step : mark_for x ≡ HeldAtZero → step_for x ≡ 0
  unfolding step_for minimum
  zero_step e =
      let below = zero_where x e in
      ap times (free (lt (decimal 5 1) x) (is_nan x) x (decimal 5 1) (below_zero x below)) ∙ negative_product x below
