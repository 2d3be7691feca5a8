-- A rising operator segment whose ends are both below 6.7 yields 6.7, at every phase that bends to a finite number.
-- Assumes nothing.
use mathlib.Core.Path.{◌≡◌, refl}
use mathlib.Core.Bool.{Bool, true, false}
use Prim.Native.Nat.{ℕ, ◌*◌}
use native.Mathlib.Nat.{mul-zero, mul-one, zero-mul}
use lib.IntN.{ℤ, pos, negsuc}
use lib.Dec.{lit<}
use lib.Ieee.Fits.{down_pos}
use lib.Ieee.Scale.{round_same}
use lib.Ieee.{Float, fin, binary32, lt, is_nan, add, sub, mul, neg, sum, round, up, down, unlike}
use Rattle.numbers.specs.F32.{◌⊕◌, ◌⊖◌, ◌⊗◌, decimal}
use Rattle.numbers.specs.Extremes.{maximum}
use Rattle.envelope_stages.specs.Stages.{jump}
use Rattle.envelope_inner.specs.Envelope.{bent, line, segment}

-- 6.7 as it is stored
abbrev six_seven : Float
six_seven = fin false 7025459 (negsuc 19)

jump_is : jump ≡ six_seven
unfolding jump decimal round
jump_is = refl

-- a finite number times 0 is a zero
times_zero : (s : Bool) (m : ℕ) (e : ℤ) → fin s m e ⊗ fin false 0 (pos 0) ≡ fin (unlike s false) 0 (pos 0)
unfolding mul round
times_zero s m e =
    round_same binary32 (unlike s false) (m * up e * 0) (down e * 1) 0 1 (rw mul-one (down_pos e)) (lit< tt)
    (simp (mul-zero, zero-mul))

-- added to 6.7 it leaves it
plus_jump : (s : Bool) → fin s 0 (pos 0) ⊕ six_seven ≡ six_seven
unfolding add sum round
plus_jump true = refl
plus_jump false = refl

-- 6.7 less 6.7
no_height : six_seven ⊖ six_seven ≡ fin false 0 (pos 0)
unfolding sub neg add sum round
no_height = refl

-- a level that is not above 6.7 is lifted to it
lifted : (x : Float) → lt jump x ≡ false → maximum jump x ≡ six_seven
unfolding maximum is_nan jump decimal round
lifted x h = rw h

-- the straight line from 6.7 to 6.7
flat : (s : Bool) (m : ℕ) (e : ℤ) → line (fin s m e) six_seven six_seven ≡ six_seven
unfolding line
flat s m e = rw (no_height, times_zero) (plus_jump (unlike s false))

-- both ends below
pub both_below : (phase from to : Float) (s : Bool) (m : ℕ) (e : ℤ) → lt from to ≡ true → lt jump from ≡ false
    → lt jump to ≡ false → bent phase ≡ fin s m e
    → segment true phase from to ≡ jump
unfolding segment
both_below phase from to s m e rises below-from below-to b =
    rw (rises, lifted from below-from, lifted to below-to, b, jump_is) (flat s m e)

-- the phase 1 bends to a number a little above 1
bent_one : bent (decimal 1 0) ≡ fin false 2097153 (negsuc 20)
unfolding bent decimal sub neg add sum mul round
bent_one = refl

-- held at sustain too, where the phase is 1
pub both_below_at_sustain : (from to : Float) → lt from to ≡ true → lt jump from ≡ false → lt jump to ≡ false
    → segment true (decimal 1 0) from to ≡ jump
both_below_at_sustain from to rises below-from below-to =
    both_below (decimal 1 0) from to false 2097153 (negsuc 20) rises below-from below-to bent_one
