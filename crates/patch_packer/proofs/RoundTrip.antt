-- There and back: unpacking what was packed gives the patch, and packing what was unpacked gives the bytes
-- exactly if they were clean. Assumes nothing.
use mathlib.Core.Path.{◌≡◌, refl, sym, ◌∙◌, ap}
use mathlib.Core.Bool.{true, and-eq-true_iff}
use mathlib.Core.List.{List}
use Prim.Native.Nat.{ℕ, ◌/◌, ◌%◌, ◌^◌, ◌<◌, ◌≤◌}
use native.Mathlib.Nat.{zero-add}
use native.Mathlib.Omega.{arith}
use borrow.Author.Tests.{eqb-true, le-ltb, ltb-true}
use lib.Dec.{eqb, ltb}
use lib.ListN.{length, get_or, take}
use lib.Seq.{ext_get_or, get_or-take, length-take-le}
use Rattle.std.specs.Prelude.{Ok}
use Rattle.refusals.specs.Answer.{state_after}
use Rattle.patch.specs.declared.Patch.{Patch}
use Rattle.patch.specs.Layout.{Place, later, envelope_field, scaling_field, operator_field, lfo_field, field_of}
use Rattle.patch.specs.Layout.{envelope_names, scaling_names, operator_names, lfo_names, letters, shared_names, layout}
use Rattle.patch.specs.Form.{patch_with, number_of, Shaped}
use Rattle.patch.specs.Packed.{bits_in, read_in, within, unpacked, patch_fits, unpack_of}
use Rattle.patch_packer.specs.Packing.{byte_of, packed, pack_of, Clean}
use Rattle.patch.proofs.Made.{patch_numbers}
use Rattle.patch.proofs.Positions.{patch_with_lem}
use Rattle.patch.proofs.Reading.{numbers_read, numbers_low, unpacked_fits}
use Rattle.patch.proofs.Each.{every, Each, each, both_each, map_each, each_within, within_each}
use Rattle.patch_packer.proofs.Tables.{length_bytes, get_d_bytes, fits_width, same_byte, above, stacked, Back}
use Rattle.patch_packer.proofs.Tables.{read_back}

-- what the table has to be: fields stacked in their bytes, within 128 bytes, their largest numbers within their widths
table_stacked : stacked field_of layout ≡ true
unfolding stacked above every layout operator_names envelope_names scaling_names lfo_names letters shared_names field_of
    later operator_field envelope_field scaling_field lfo_field
table_stacked = refl

table_bytes : every (λ n. ltb (field_of n).byte 128) layout ≡ true
unfolding every layout operator_names envelope_names scaling_names lfo_names letters shared_names field_of later
    operator_field envelope_field scaling_field lfo_field
table_bytes = refl

table_largest : every (λ n. ltb (field_of n).largest (2 ^ (field_of n).width)) layout ≡ true
unfolding every layout operator_names envelope_names scaling_names lfo_names letters shared_names field_of later
    operator_field envelope_field scaling_field lfo_field
table_largest = refl

-- the packed byte k
packed_byte : (p : Patch) (k : ℕ) → k < 128 → get_or (packed p) k 0 ≡ byte_of field_of (number_of p) layout k
unfolding packed
packed_byte p k h =
    get_d_bytes field_of (number_of p) layout 128 0 k h ∙ ap (byte_of field_of (number_of p) layout) (zero-add k)

-- a field's bits in the packed bytes are its number, if that is at most its largest
module _ (p : Patch) (low : Each (λ n. number_of p n ≤ (field_of n).largest) layout) where
  one : (n : Place) → (ltb (field_of n).byte 128 ≡ true) × (ltb (field_of n).largest (2 ^ (field_of n).width) ≡ true)
      → Back field_of (number_of p) layout n × (number_of p n ≤ (field_of n).largest)
      → bits_in (packed p) (field_of n) ≡ number_of p n
  unfolding bits_in
  one n (b, l) (r, h) =
      ap (λ (x : ℕ). x / 2 ^ (field_of n).bit % 2 ^ (field_of n).width)
      (packed_byte p (field_of n).byte (ltb-true (field_of n).byte 128 b)) ∙ r
      ∙ fits_width (number_of p n) (field_of n) l h

  packed_bits : Each (λ n. bits_in (packed p) (field_of n) ≡ number_of p n) layout
  packed_bits =
      both_each one layout
      (both_each (λ n a b. (a, b)) layout (each (λ n. ltb (field_of n).byte 128) layout table_bytes)
      (each (λ n. ltb (field_of n).largest (2 ^ (field_of n).width)) layout table_largest))
      (both_each (λ n a b. (a, b)) layout (read_back field_of (number_of p) layout table_stacked) low)

  packed_numbers : Each (λ n. read_in (packed p) (field_of n) ≡ number_of p n) layout
  unfolding read_in
  packed_numbers = both_each (λ n e h. rw e (omega arith)) layout packed_bits low

-- unpacking what was packed gives the patch, for every patch that 6 accepts
pub unpacked_of_packed : (p : Patch) → Shaped p → patch_fits p ≡ true → unpacked (packed p) ≡ p
unfolding unpacked patch_fits
unpacked_of_packed p h e =
    let b = (and-eq-true_iff (within field_of (number_of p) layout) (eqb p.active_operators 63)).0 e in
    patch_with_lem (λ n. read_in (packed p) (field_of n)) (number_of p) 63
    (map_each (λ n. read_in (packed p) (field_of n)) (number_of p) layout
    (packed_numbers p (each_within field_of (number_of p) layout b.0)))
    ∙ ap (patch_with (number_of p)) (sym (eqb-true p.active_operators 63 b.1))
    ∙ patch_numbers p h

pub length_packed : (p : Patch) → length (packed p) ≡ 128
unfolding packed
length_packed p = length_bytes field_of (number_of p) layout 0 128

-- the same of the entries
pub unpack_of_pack : (p q : Patch) → Shaped p → patch_fits p ≡ true
    → (pack_of p ≡ Ok (packed p)) × (unpack_of q (packed p) ≡ Ok p)
unfolding unpack_of pack_of
unpack_of_pack p q h e = (rw e, rw (length_packed p, unpacked_of_packed p h e))

module _ (s : List ℕ) where
  -- packing what was unpacked gives the bytes back, if they were clean
  pub packed_of_unpacked : 128 ≤ length s → Clean s → packed (unpacked s) ≡ take 128 s
  unfolding read_in
  packed_of_unpacked h c =
      ext_get_or 0 (packed (unpacked s)) (take 128 s) (length_packed (unpacked s) ∙ sym (length-take-le 128 s h))
      (λ k b. at k (rw (length_packed (unpacked s)) at b))
    where
      low : (n : Place) → number_of (unpacked s) n ≡ read_in s (field_of n)
          → bits_in s (field_of n) ≤ (field_of n).largest
          → number_of (unpacked s) n ≡ bits_in s (field_of n)
      low n e l = e ∙ omega arith

      bits : Each (λ n. number_of (unpacked s) n ≡ bits_in s (field_of n)) layout
      bits = both_each low layout (numbers_read s) (each_within field_of (λ n. bits_in s (field_of n)) layout c.clamped)

      at : (k : ℕ) → k < 128 → get_or (packed (unpacked s)) k 0 ≡ get_or (take 128 s) k 0
      at k b =
          packed_byte (unpacked s) k b
          ∙ same_byte field_of (number_of (unpacked s)) (λ n. bits_in s (field_of n)) layout k bits
          ∙ sym (c.unused k b)
          ∙ sym (get_or-take 128 s k 0 b)

  -- and only then
  pub clean_of_packed : packed (unpacked s) ≡ take 128 s → Clean s
  unfolding bits_in
  clean_of_packed e = record {
    clamped = within_each field_of (λ n. bits_in s (field_of n)) layout (both_each low layout bits (numbers_low s));
    unused = λ k b. byte k b ∙ packed_byte (unpacked s) k b
        ∙ sym (same_byte field_of (λ n. bits_in s (field_of n)) (number_of (unpacked s)) layout k bits);
  }
    where
      byte : (k : ℕ) → k < 128 → get_or s k 0 ≡ get_or (packed (unpacked s)) k 0
      byte k b = sym (get_or-take 128 s k 0 b) ∙ ap (λ (l : List ℕ). get_or l k 0) (sym e)

      there : (n : Place) → ltb (field_of n).byte 128 ≡ true
          → bits_in (packed (unpacked s)) (field_of n) ≡ number_of (unpacked s) n
          → bits_in s (field_of n) ≡ number_of (unpacked s) n
      there n t q =
          ap (λ (x : ℕ). x / 2 ^ (field_of n).bit % 2 ^ (field_of n).width)
          (byte (field_of n).byte (ltb-true (field_of n).byte 128 t)) ∙ q

      bits : Each (λ n. bits_in s (field_of n) ≡ number_of (unpacked s) n) layout
      bits =
          both_each there layout (each (λ n. ltb (field_of n).byte 128) layout table_bytes)
          (packed_bits (unpacked s) (numbers_low s))

      low : (n : Place) → bits_in s (field_of n) ≡ number_of (unpacked s) n
          → number_of (unpacked s) n ≤ (field_of n).largest
          → bits_in s (field_of n) ≤ (field_of n).largest
      low n q l = omega arith

  -- the same of the entries: what was unpacked is packed again, to the same 128 bytes if they were clean and only then
  packed_again : (p : Patch) → 128 ≤ length s → pack_of (state_after (unpack_of p s)) ≡ Ok (packed (unpacked s))
  unfolding pack_of unpack_of
  packed_again p h = rw (le-ltb (length s) 128 h, unpacked_fits s)

  pub pack_of_unpack : (p : Patch) → 128 ≤ length s → Clean s → pack_of (state_after (unpack_of p s)) ≡ Ok (take 128 s)
  pack_of_unpack p h c = packed_again p h ∙ ap (λ (b : List ℕ). Ok b) (packed_of_unpacked h c)

  pub clean_of_pack : (p : Patch) → 128 ≤ length s → pack_of (state_after (unpack_of p s)) ≡ Ok (take 128 s) → Clean s
  clean_of_pack p h e = clean_of_packed (cc (sym (packed_again p h) ∙ e))
