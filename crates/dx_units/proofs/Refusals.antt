-- What an entry's tests say of its fields, over plain variables. Assumes nothing.
use mathlib.Core.Path.{◌≡◌, sym, subst}
use mathlib.Core.Bool.{true, ◌&&◌, and_assoc, and-true}
use Prim.Native.Nat.{ℕ, ◌≤◌}
use lib.Dec.{T, leb, leb→le}
use lib.Ieee.Fits.{and_l, and_r}
use Rattle.patch.specs.declared.KeyboardScaling.{KeyboardScaling}
use Rattle.patch.specs.Packed.{within, scaling_fits}
use Rattle.patch.specs.Form.{scaling_number}
use Rattle.patch.specs.Layout.{scaling_field, operator_field, scaling_names}
use Rattle.dx_units.specs.Answers.{frequency_fits}

-- the five numbers of keyboard scaling that fit, one by one
pub five_fit : (k : KeyboardScaling)
    → scaling_fits k
    ≡ leb k.break_point 99 && leb k.left_depth 99 && leb k.right_depth 99 && leb k.left_curve 3
    && leb k.right_curve 3
unfolding scaling_fits within scaling_names scaling_field scaling_number
five_fit k = simp (and_assoc, and-true)

-- the fields of a frequency that fit are in bounds of the table
pub fits_coarse : (mode coarse fine detune : ℕ) → frequency_fits mode coarse fine detune ≡ true → coarse ≤ 31
unfolding frequency_fits operator_field
fits_coarse mode coarse fine detune e =
    let m = leb mode 1 in
    let k = leb coarse 31 in
    let f = leb fine 99 in
    let d = leb detune 14 in
    leb→le coarse 31 (and_r m k (and_l (m && k) f (and_l (m && k && f) d (subst T (sym e) tt))))
