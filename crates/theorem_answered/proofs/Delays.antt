-- An LFO's delay stays from 0 to 1, and so is how far the modulation has faded in. Assumes nothing.
use mathlib.Core.Path.{◌≡◌, refl}
use mathlib.Core.Bool.{Bool, true, false, cond}
use Prim.Native.Nat.{ℕ, ◌+◌, ◌-◌, ◌*◌}
use native.Mathlib.Omega.{arith}
use borrow.Author.Tests.{le-ltb}
use lib.Dec.{ltb}
use lib.IntN.{ℤ, pos}
use lib.Ieee.{Float, fin, binary32, up, down, lt, le, add, sum, round}
use Rattle.numbers.specs.F32.{◌⊕◌, ◌⊖◌, ◌⊗◌, decimal}
use Rattle.numbers.proofs.Views.{on, NotAtLeast, nge_fin, not_at_least}
use Rattle.numbers.proofs.Rounded.{round_plus}
use Rattle.lfo_inner.specs.Lfo.{at_most_one, delay_stepped, ramp_of}
use Rattle.lfo.proofs.Phases.{FromZero, plus, minus_zero, no_part, part_from_zero, Sum, sum_of, sum_small, parts_add}
use Rattle.lfo.proofs.Phases.{AtLeastZero, infinite, some, product_at_least, plus_at_least, gone}
use Rattle.numbers.proofs.Sizes.{Share, share, no_share}
use Rattle.theorem_answered.proofs.Shares.{share_from_zero, twice_past_half}
use Rattle.theorem_answered.proofs.Waves.{zero_share, one_share}

-- ---- a sum of two that are at least 0

rounded : (n d : ℕ) → AtLeastZero (round binary32 false n d)
rounded n d = plus_at_least (round binary32 false n d) (round_plus n d)

sum_at_least : (x : Float) → Sum x → AtLeastZero x
sum_at_least _ (sum_of n d p h) = rounded n d
sum_at_least _ (sum_small x p) = some x (part_from_zero x p)

either : (a b c : ℕ) (t : Bool) → AtLeastZero (cond t (round binary32 false (b - a) c) (round binary32 false (a - b) c))
either a b c true = rounded (b - a) c
either a b c false = rounded (a - b) c

zeros_add : (x y : Float) → FromZero x → FromZero y → AtLeastZero (x ⊕ y)
unfolding add sum
zeros_add _ _ (plus m e) (plus n d) = rounded (m * up e * down d + n * up d * down e) (down e * down d)
zeros_add _ _ (plus m e) (minus_zero d) =
    let a = m * up e * down d in
    let b = 0 * up d * down e in
    rw (le-ltb a b (let z = gone (up d) (down e) in omega arith)) (rounded (a - b) (down e * down d))
zeros_add _ _ (minus_zero e) (plus n d) =
    let a = 0 * up e * down d in
    let b = n * up d * down e in
    rw (le-ltb b a (let z = gone (up e) (down d) in omega arith)) (either a b (down e * down d) (ltb a b))
zeros_add x y (minus_zero e) (minus_zero d) =
    sum_at_least (fin true 0 e ⊕ fin true 0 d) (parts_add (fin true 0 e) (fin true 0 d) (no_part e) (no_part d))

at_least_add : (x y : Float) → FromZero x → AtLeastZero y → AtLeastZero (x ⊕ y)
unfolding add
at_least_add _ _ (plus m e) infinite = infinite
at_least_add _ _ (minus_zero e) infinite = infinite
at_least_add x _ f (some y g) = zeros_add x y f g

-- ---- at most 1

below_share : (m : ℕ) (e : ℤ) → NotAtLeast 0 (fin false m e) → Share (fin false m e)
below_share m e (nge_fin _ _ h) = share m e (omega arith)

capped : (x : Float) → AtLeastZero x → (b : Bool) → le (fin false 1 (pos 0)) x ≡ b → Share (cond b (decimal 1 0) x)
unfolding le lt
capped x p true l = one_share
capped _ infinite false l = on l
capped _ (some _ (plus m e)) false l = below_share m e (not_at_least 0 (fin false m e) l)
capped _ (some _ (minus_zero e)) false l = no_share e

at_most_share : (x : Float) → AtLeastZero x → Share (at_most_one x)
unfolding at_most_one decimal
at_most_share x p = capped x p (le (decimal 1 0) x) refl

pub delay_share : (delay first second scale : Float) → Share delay → FromZero first → FromZero second → FromZero scale
    → Share (delay_stepped delay first second scale)
unfolding delay_stepped
delay_share delay first second scale p f g s = at_most_share _ (go (lt delay (decimal 5 1)))
  where
    go : (b : Bool) → AtLeastZero (delay ⊕ scale ⊗ cond b first second)
    go true = at_least_add delay (scale ⊗ first) (share_from_zero delay p) (product_at_least scale first s f)
    go false = at_least_add delay (scale ⊗ second) (share_from_zero delay p) (product_at_least scale second s g)

pub ramp_share : (delay : Float) → Share delay → Share (ramp_of delay)
unfolding ramp_of decimal
ramp_share delay p = go (lt delay (decimal 5 1)) refl
  where
    go : (b : Bool) → lt delay (decimal 5 1) ≡ b → Share (cond b (decimal 0 0) ((delay ⊖ decimal 5 1) ⊗ decimal 2 0))
    go true l = zero_share
    go false l = (twice_past_half delay p l).0
