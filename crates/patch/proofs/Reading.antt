-- The limits of the packed form, and the numbers of an unpacked patch: they are read from the bytes, and 6 never
-- refuses them. Assumes nothing.
use mathlib.Core.Path.{◌≡◌, refl}
use mathlib.Core.Bool.{true}
use mathlib.Core.List.{List, map}
use Prim.Native.Nat.{ℕ, ◌≤◌}
use native.Mathlib.Omega.{arith}
use Rattle.patch.specs.Layout.{limit_of, later, envelope_field, scaling_field, operator_field, lfo_field, field_of}
use Rattle.patch.specs.Layout.{envelope_names, scaling_names, operator_names, lfo_names, letters, shared_names, layout}
use Rattle.patch.specs.Form.{number_of, patch_with}
use Rattle.patch.specs.Packed.{read_in, unpacked, patch_fits}
use Rattle.patch.proofs.Positions.{numbers_with}
use Rattle.patch.proofs.Each.{Each, both_each, each_map, within_each}

-- the packed form's largest numbers are the table's limits
pub limits_of_packed : map (λ n. (field_of n).largest) layout ≡ map limit_of layout
unfolding layout operator_names envelope_names scaling_names lfo_names letters shared_names field_of later
    operator_field envelope_field scaling_field lfo_field
limits_of_packed = refl

-- the layout's numbers of an unpacked patch are its fields read from the bytes
pub numbers_of_unpacked : (s : List ℕ) → map (number_of (unpacked s)) layout ≡ map (λ n. read_in s (field_of n)) layout
unfolding unpacked
numbers_of_unpacked s = numbers_with (λ n. read_in s (field_of n)) 63

pub numbers_read : (s : List ℕ) → Each (λ n. number_of (unpacked s) n ≡ read_in s (field_of n)) layout
numbers_read s = each_map (number_of (unpacked s)) (λ n. read_in s (field_of n)) layout (numbers_of_unpacked s)

pub numbers_low : (s : List ℕ) → Each (λ n. number_of (unpacked s) n ≤ (field_of n).largest) layout
unfolding read_in
numbers_low s = both_each (λ n e u. omega arith) layout (numbers_read s) (numbers_read s)

-- an unpacked patch is never refused by 6
pub unpacked_fits : (s : List ℕ) → patch_fits (unpacked s) ≡ true
unfolding patch_fits unpacked patch_with
unpacked_fits s = rw (within_each field_of (number_of (unpacked s)) layout (numbers_low s))
