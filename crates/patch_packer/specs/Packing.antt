-- What packing means, for any table, and the packer over the patch's. To be believed, but for the bytes in two parts;
-- the entry's contract cites these.
use Rattle.std.specs.Prelude.{◌≡◌, true, cond, List, [], ◌∷◌, ℕ, zero, suc, ◌+◌, ◌*◌, ◌%◌, ◌^◌, ◌<◌, get_or}
use Rattle.std.specs.Prelude.{eqb, Result, Ok, Err}
use Rattle.refusals.specs.declared.Refusal.{Refusal}
use Rattle.refusals.specs.declared.Refusal.TheVariants as refusal
use Rattle.patch.specs.declared.Operator.{Operator}
use Rattle.patch.specs.declared.Patch.{Patch}
use Rattle.patch.specs.Layout.{Field, operator_field, field_of, operator_names, shared_names, layout}
use Rattle.patch.specs.Form.{operator_number, number_of}
use Rattle.patch.specs.Packed.{bits_in, within, patch_fits}

-- a number at its field's bits
unfoldable pub placed : Field → ℕ → ℕ
placed f x = x % 2 ^ f.width * 2 ^ f.bit

module _ {N : Type 0} (field : N → Field) where
  -- byte k of the fields ns with the numbers g: the sum of those that lie there, each at its bits; all other bits are
  -- clear
  unfoldable pub byte_of : (N → ℕ) → List N → ℕ → ℕ
  byte_of g [] k = 0
  byte_of g (n ∷ ns) k = cond (eqb (field n).byte k) (placed (field n) (g n) + byte_of g ns k) (byte_of g ns k)

  -- count bytes from byte k on
  unfoldable pub bytes_of : (N → ℕ) → List N → ℕ → ℕ → List ℕ
  bytes_of g ns k zero = []
  bytes_of g ns k (suc count) = byte_of g ns k ∷ bytes_of g ns (suc k) count

-- the 128 bytes of a patch
unfoldable pub packed : Patch → List ℕ
packed p = bytes_of field_of (number_of p) layout 0 128

-- the parts that the code writes: an operator's 17 bytes, and the 26 behind the operators
unfoldable pub operator_bytes : Operator → List ℕ
operator_bytes o = bytes_of operator_field (operator_number o) operator_names 0 17

unfoldable pub shared_bytes : Patch → List ℕ
shared_bytes p = bytes_of field_of (number_of p) shared_names 102 26

-- 6 for a patch that does not fit, else its bytes
unfoldable pub pack_of : Patch → Result (List ℕ) Refusal
pack_of p = cond (patch_fits p) (Ok (packed p)) (Err refusal.Field)

-- bytes that a packer can have written: already clamped, every field's bits at most its largest number; and free of
-- unused bits, each of the 128 the sum of its fields' bits and nothing else
pub record Clean (s : List ℕ) : Type 0 where
  pub clamped : within field_of (λ n. bits_in s (field_of n)) layout ≡ true
  pub unused : (k : ℕ) → k < 128 → get_or s k 0 ≡ byte_of field_of (λ n. bits_in s (field_of n)) layout k
