-- A patch as its 155 numbers in layout order, and back. To be believed, but for the numbers in two parts; the entries'
-- contracts cite these.
use Rattle.std.specs.Prelude.{List, map, ℕ, get_or}
use Rattle.patch.specs.declared.Operator.{Operator}
use Rattle.patch.specs.declared.Patch.{Patch}
use Rattle.patch.specs.Layout.{operator_names, shared_names, layout}
use Rattle.patch.specs.Form.{operator_number, number_of, patch_with}
use Rattle.patch.specs.Positions.{position}

-- a patch's numbers: all but that of the active operators
unfoldable pub numbers_of : Patch → List ℕ
numbers_of p = map (number_of p) layout

-- the patch with such numbers, and all six operators active
unfoldable pub patch_of : List ℕ → Patch
patch_of ns = patch_with (λ n. get_or ns (position n) 0) 63

-- the parts that the code writes: an operator's 21 numbers, and the 29 behind the operators
unfoldable pub operator_numbers : Operator → List ℕ
operator_numbers o = map (operator_number o) operator_names

unfoldable pub shared_numbers : Patch → List ℕ
shared_numbers p = map (number_of p) shared_names
