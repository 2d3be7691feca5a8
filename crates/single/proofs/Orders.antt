-- A dump's order and layout order: each operator's last seven fields turn by one place from layout order to a dump's,
-- and by six back; and the patch of a patch's data bytes is that patch. Assumes nothing.
use mathlib.Core.Path.{◌≡◌, refl, sym, ◌∙◌, ap}
use mathlib.Core.Bool.{true, and-eq-true_iff}
use mathlib.Core.List.{List, [], ◌∷◌, map}
use Prim.Native.Nat.{ℕ, zero, suc, ◌<◌, ◌≤◌}
use native.Mathlib.Omega.{arith}
use borrow.Author.Tests.{leb-true}
use lib.Dec.{eqb, leb}
use lib.ListN.{length}
use Rattle.dump.specs.Dump.{fixed, channel_row, largest_of}
use Rattle.patch.specs.declared.Patch.{Patch}
use Rattle.patch.specs.Layout.{later, envelope_field, scaling_field, operator_field, lfo_field, field_of}
use Rattle.patch.specs.Layout.{Place, operator_names, envelope_names, scaling_names, lfo_names, letters, shared_names}
use Rattle.patch.specs.Layout.{layout}
use Rattle.patch.specs.Form.{envelope_with, scaling_with, operator_with, modulations_with, name_with, patch_with}
use Rattle.patch.specs.Form.{envelope_number, scaling_number, operator_number, lfo_number, operator_at, number_of}
use Rattle.patch.specs.Form.{ShapedEnvelope, Shaped}
use Rattle.patch.specs.Packed.{within, patch_fits}
use Rattle.patch.proofs.Each.{every, Each, each, both_each, each_within}
use Rattle.patch.specs.Positions.{envelope_position, scaling_position, operator_position, lfo_position, position}
use Rattle.patch.proofs.Made.{firsts, listed, patch_numbers}
use Rattle.patch.proofs.Positions.{count_from}
use Rattle.patch_numbers.specs.Numbers.{numbers_of, patch_of}
use Rattle.single.specs.Single.{single_form, single_names, single_order, stand_in, data_bytes, patch_in}
use Rattle.single.specs.Single.{turned_place, turned_from, turned}
use Rattle.single.proofs.Turns.{turned_low}

-- the form's bytes, as the request writes them: F0 43 0n 00 01 1B
pub single_header : single_form.header
    ≡ fixed 0xF0 ∷ fixed 0x43 ∷ channel_row ∷ fixed 0x00 ∷ fixed 0x01 ∷ fixed 0x1B ∷ []
unfolding single_form
single_header = refl

-- a dump's order is 0 to 154: no field stands there twice
pub in_order : map (stand_in single_order) single_order ≡ count_from 0 155
unfolding stand_in count_from single_order single_names position operator_position envelope_position scaling_position
    lfo_position envelope_names scaling_names lfo_names letters shared_names
in_order = refl

-- the numbers of the fields in layout order, turned by one place, are those in a dump's order
turned_numbers : (g : Place → ℕ) → turned 1 (map g layout) ≡ map g single_order
unfolding turned turned_from turned_place layout operator_names envelope_names scaling_names lfo_names letters
    shared_names single_order single_names
turned_numbers g = refl

pub data_of_numbers : (p : Patch) → turned 1 (numbers_of p) ≡ data_bytes p
unfolding numbers_of data_bytes
data_of_numbers p = turned_numbers (number_of p)

-- data bytes turned by six are the numbers of the patch in them
pub patch_of_turned : (bytes : List ℕ) → patch_of (turned 6 bytes) ≡ patch_in bytes
unfolding turned turned_from turned_place patch_of patch_in patch_with operator_with envelope_with scaling_with
    modulations_with name_with stand_in single_order single_names position operator_position envelope_position
    scaling_position lfo_position envelope_names scaling_names lfo_names letters shared_names
patch_of_turned bytes = refl

-- the data bytes of the patch in 155 bytes are these
pub data_of_patch : (bytes : List ℕ) → length bytes ≡ 155 → data_bytes (patch_in bytes) ≡ bytes
unfolding data_bytes patch_in patch_with operator_with envelope_with scaling_with modulations_with name_with stand_in
    single_order single_names position operator_position envelope_position scaling_position lfo_position envelope_names
    scaling_names lfo_names letters shared_names number_of operator_at operator_number envelope_number scaling_number
    lfo_number firsts
data_of_patch bytes h = listed 0 155 bytes h

-- a patch made of numbers is made of their list in a dump's order
by_stand : (g : Place → ℕ) → patch_in (map g single_order) ≡ patch_with g 63
unfolding patch_in patch_with operator_with envelope_with scaling_with modulations_with name_with stand_in single_order
    single_names position operator_position envelope_position scaling_position lfo_position envelope_names scaling_names
    lfo_names letters shared_names
by_stand g = refl

-- the patch in a patch's data bytes is that patch, if all its operators are active
pub patch_of_data : (p : Patch) → Shaped p → p.active_operators ≡ 63 → patch_in (data_bytes p) ≡ p
unfolding data_bytes
patch_of_data p h e = by_stand (number_of p) ∙ ap (patch_with (number_of p)) (sym e) ∙ patch_numbers p h

-- 155 data bytes, each below 128 in a patch that 6 accepts
pub length_data : (p : Patch) → length (data_bytes p) ≡ 155
unfolding data_bytes single_order single_names envelope_names scaling_names lfo_names letters shared_names
length_data p = refl

-- every limit is below 128, so every number of such a patch is
limits_low : every (λ n. leb (field_of n).largest 127) layout ≡ true
unfolding every layout operator_names envelope_names scaling_names lfo_names letters shared_names field_of later
    operator_field envelope_field scaling_field lfo_field
limits_low = refl

largest_map : {N : Type 0} (g : N → ℕ) (ns : List N) → Each (λ n. g n ≤ 127) ns → largest_of (map g ns) ≤ 127
unfolding largest_of
largest_map g [] es = omega arith
largest_map g (n ∷ ns) (e, es) = let l = largest_map g ns es in omega arith

numbers_low : (p : Patch) → patch_fits p ≡ true → largest_of (numbers_of p) ≤ 127
unfolding patch_fits numbers_of
numbers_low p e =
    let w = ((and-eq-true_iff (within field_of (number_of p) layout) (eqb p.active_operators 63)).0 e).0 in
    largest_map (number_of p) layout (both_each low layout (each_within field_of (number_of p) layout w)
    (each (λ n. leb (field_of n).largest 127) layout limits_low))
  where
    low : (n : Place) → number_of p n ≤ (field_of n).largest → leb (field_of n).largest 127 ≡ true → number_of p n ≤ 127
    low n h t = omega (arith, leb-true (field_of n).largest 127 t)

pub data_low : (p : Patch) → patch_fits p ≡ true → largest_of (data_bytes p) ≤ 127
data_low p e = rw (← data_of_numbers p) (turned_low 1 (numbers_of p) (numbers_low p e))

-- a patch that is made of numbers has arrays as long as they are declared
pub made_shaped : (g : Place → ℕ) (a : ℕ) → Shaped (patch_with g a)
unfolding patch_with operator_with envelope_with name_with operator_at
made_shaped g a = record {
  operators = refl;
  envelopes = stages;
  pitch = record { rates = refl; levels = refl };
  letters = refl;
}
  where
    stages : (k : ℕ) → k < 6 → ShapedEnvelope (operator_at (patch_with g a).op k).envelope
    stages zero h = record { rates = refl; levels = refl }
    stages (suc zero) h = record { rates = refl; levels = refl }
    stages (suc (suc zero)) h = record { rates = refl; levels = refl }
    stages (suc (suc (suc zero))) h = record { rates = refl; levels = refl }
    stages (suc (suc (suc (suc zero)))) h = record { rates = refl; levels = refl }
    stages (suc (suc (suc (suc (suc zero))))) h = record { rates = refl; levels = refl }
    stages (suc (suc (suc (suc (suc (suc k)))))) h = let z : ⊥ = omega arith in absurd z
