-- From 0 to 1, and from -4 to 4, by a comparison and by the form of a float. Assumes nothing.
use mathlib.Core.Path.{refl}
use mathlib.Core.Bool.{true, false}
use Prim.Native.Nat.{◌+◌, ◌*◌, ◌^◌}
use native.Mathlib.Omega.{arith}
use lib.Dec.{T, ltb, lt→ltb}
use lib.IntN.{pos}
use lib.Ieee.{Float, nan, inf, fin, up, down, lt, le, eq}
use lib.Ieee.Bits.{is_true}
use lib.Ieee.Fits.{down_pos}
use lib.Ieee.Order.{le_of_values}
use lib.Ieee.Scale.{finite}
use Rattle.numbers.specs.F32.{decimal, minus_decimal}
use Rattle.numbers.proofs.Views.{or_le}
use Rattle.numbers.proofs.Casts.{or_i}
use Rattle.lfo.proofs.Phases.{FromZero, plus, minus_zero, is_from_zero, from_zero_le}
use Rattle.numbers.proofs.Sizes.{Held, held, Share, share, no_share}
use Rattle.theorem_answered.proofs.Shares.{share_from_zero}

-- ---- from 0 to 1

between_finite : (x : Float) → T (le (decimal 0 0) x) → T (le x (decimal 1 0)) → T (finite x)
unfolding decimal le lt eq
between_finite nan g h = g
between_finite (inf true) g h = g
between_finite (inf false) g h = h
between_finite (fin s m e) g h = tt

to_share : (x : Float) → FromZero x → T (le x (fin false 1 (pos 0))) → Share x
unfolding le lt eq
to_share _ (plus m e) t = share m e (let z = or_le (m * up e * 1) (1 * 1 * down e) true (is_true _ t) in omega arith)
to_share _ (minus_zero e) t = no_share e

pub is_share : (x : Float) → T (le (decimal 0 0) x) → T (le x (decimal 1 0)) → Share x
unfolding decimal
is_share x g h = to_share x (is_from_zero x (is_true _ g) (between_finite x g h)) h

pub share_low : (x : Float) → Share x → T (le (decimal 0 0) x)
unfolding decimal
share_low x s = from_zero_le x (share_from_zero x s)

pub share_high : (x : Float) → Share x → T (le x (decimal 1 0))
unfolding decimal le lt eq
share_high _ (share m e h) =
    le_of_values (fin false m e) (fin false 1 (pos 0)) (m * up e) (down e) 1 1 (down_pos e) (omega arith) (refl, refl)
    (refl, refl) (omega arith)
share_high _ (no_share e) =
    or_i (ltb 0 (0 * up e * 1 + 1 * 1 * down e)) _
    (lt→ltb 0 (0 * up e * 1 + 1 * 1 * down e) (let p = down_pos e in omega arith))

-- ---- from -4 to 4, for a size of at most 2

pub held_low : (x : Float) → Held 2 1 x → T (le (minus_decimal 4 0) x)
unfolding minus_decimal le lt eq
held_low _ (held false m e h) =
    or_i (ltb 0 (1 * 2 ^ 2 * down e + m * up e * 1)) _
    (lt→ltb 0 (1 * 2 ^ 2 * down e + m * up e * 1) (let p = down_pos e in omega arith))
held_low _ (held true m e h) =
    or_i (ltb (m * up e * 1) (1 * 2 ^ 2 * down e)) _
    (lt→ltb (m * up e * 1) (1 * 2 ^ 2 * down e) (let p = down_pos e in omega arith))

pub held_high : (x : Float) → Held 2 1 x → T (le x (decimal 4 0))
unfolding decimal le lt eq
held_high _ (held false m e h) =
    or_i (ltb (m * up e * 1) (1 * 2 ^ 2 * down e)) _
    (lt→ltb (m * up e * 1) (1 * 2 ^ 2 * down e) (let p = down_pos e in omega arith))
held_high _ (held true m e h) =
    or_i (ltb 0 (m * up e * 1 + 1 * 2 ^ 2 * down e)) _
    (lt→ltb 0 (m * up e * 1 + 1 * 2 ^ 2 * down e) (let p = down_pos e in omega arith))
