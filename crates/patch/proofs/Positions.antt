-- Layout order is where each field stands, and a patch is made of its 155 numbers in that order. Assumes nothing.
use mathlib.Core.Path.{◌≡◌, refl, sym, ◌∙◌, ap}
use mathlib.Core.List.{List, [], ◌∷◌, map}
use Prim.Native.Nat.{ℕ, zero, suc}
use lib.ListN.{get_or}
use Rattle.patch.specs.Layout.{Place, envelope_names, scaling_names, operator_names, lfo_names, letters, shared_names}
use Rattle.patch.specs.Layout.{layout}
use Rattle.patch.specs.Form.{envelope_with, scaling_with, operator_with, modulations_with, name_with, patch_with}
use Rattle.patch.specs.Form.{envelope_number, scaling_number, operator_number, lfo_number, operator_at, number_of}
use Rattle.patch.specs.Positions.{envelope_position, scaling_position, operator_position, lfo_position, position}

-- count numbers from k on
unfoldable pub count_from : ℕ → ℕ → List ℕ
count_from k zero = []
count_from k (suc count) = k ∷ count_from (suc k) count

-- layout order is 0 to 154: no field stands there twice
pub in_order : map position layout ≡ count_from 0 155
unfolding position count_from operator_position envelope_position scaling_position lfo_position layout operator_names
    envelope_names scaling_names lfo_names letters shared_names
in_order = refl

-- the layout's numbers of a patch that is made of numbers are these
pub numbers_with : (g : Place → ℕ) (a : ℕ) → map (number_of (patch_with g a)) layout ≡ map g layout
unfolding layout operator_names envelope_names scaling_names lfo_names letters shared_names number_of patch_with
    operator_with envelope_with scaling_with modulations_with name_with operator_at operator_number envelope_number
    scaling_number lfo_number
numbers_with g a = refl

-- a patch that is made of numbers is made of their list
pub by_position : (g : Place → ℕ) (a : ℕ) → patch_with (λ n. get_or (map g layout) (position n) 0) a ≡ patch_with g a
unfolding position operator_position envelope_position scaling_position lfo_position layout operator_names
    envelope_names scaling_names lfo_names letters shared_names patch_with operator_with envelope_with scaling_with
    modulations_with name_with
by_position g a = refl

-- a patch that is made of numbers is made of the layout's
pub patch_with_lem : (g h : Place → ℕ) (a : ℕ) → map g layout ≡ map h layout → patch_with g a ≡ patch_with h a
patch_with_lem g h a e =
    sym (by_position g a) ∙ ap (λ (l : List ℕ). patch_with (λ n. get_or l (position n) 0) a) e ∙ by_position h a
