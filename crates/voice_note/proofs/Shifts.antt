-- Transpose minus 24 in code, where it is a signed number of 32 bits; and some shifts as decimals. Assumes nothing.
use mathlib.Core.Path.{◌≡◌, refl, ◌∙◌, ap}
use mathlib.Core.Bool.{Bool}
use Prim.Native.Nat.{ℕ, ◌<◌, ◌^◌}
use native.Mathlib.Omega.{arith}
use lib.Dec.{T, ltb, ltb→lt}
use lib.IntN.{ℤ, pos, ◌-ℤ◌}
use lib.Ieee.{Float, binary32, of_int}
use lib.Signed.{mag}
use mir.Syntax.{w32}
use mir.Val.{SFits, to_z, of_z}
use mir.ValLaws.{to_z-of_z, to_z_pos}
use Rattle.numbers.specs.F32.{decimal, minus_decimal}
use Rattle.numbers.proofs.Below.{all_below, at_each}
use Rattle.voice_note.specs.Note.{shift_of}

-- a byte minus 24 lies in reach: one computed test
abbrev near : ℕ → Bool
near t = ltb (mag (pos t -ℤ pos 24)) (2 ^ 31)

all_near_lem : T (all_below near 256)
unfolding all_below
all_near_lem = tt

pub in_reach : (t : ℕ) → t < 256 → SFits w32 (to_z w32 t -ℤ pos 24)
in_reach t h = rw (to_z_pos w32 t (omega arith)) (record { sfits = ltb→lt _ _ (at_each near 256 all_near_lem t h) })

pub shift_of_lem : (t : ℕ) → t < 256 → {x : Float} → x ≡ of_int binary32 (to_z w32 (of_z w32 (to_z w32 t -ℤ pos 24)))
    → x ≡ shift_of t
unfolding shift_of
shift_of_lem t h e =
    e ∙ ap (of_int binary32) (to_z-of_z w32 (to_z w32 t -ℤ pos 24) (in_reach t h))
    ∙ ap (λ (z : ℤ). of_int binary32 (z -ℤ pos 24)) (to_z_pos w32 t (omega arith))

-- two octaves down, none and two up
pub shifts : (shift_of 0 ≡ minus_decimal 24 0) × (shift_of 24 ≡ decimal 0 0) × (shift_of 48 ≡ decimal 24 0)
unfolding shift_of of_int decimal minus_decimal
shifts = (refl, refl, refl)
