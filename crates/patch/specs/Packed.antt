-- What unpacking and the limits of number 6 mean, for any table, and the entries over the patch's. To be believed; the
-- entries' contracts cite these.
use Rattle.std.specs.Prelude.{Bool, true, cond, ◌&&◌, List, [], ◌∷◌, ℕ, ◌/◌, ◌%◌, ◌^◌, min, length, get_or, eqb, leb}
use Rattle.std.specs.Prelude.{ltb, Result, Ok, Err}
use Rattle.patch.specs.declared.KeyboardScaling.{KeyboardScaling}
use Rattle.patch.specs.declared.Operator.{Operator}
use Rattle.patch.specs.declared.ModulationParameters.{ModulationParameters}
use Rattle.patch.specs.declared.Patch.{Patch}
use Rattle.refusals.specs.declared.Refusal.{Refusal}
use Rattle.refusals.specs.declared.Refusal.TheVariants as refusal
use Rattle.refusals.specs.declared.Refused.{Refused}
use Rattle.refusals.specs.Answer.{refused}
use Rattle.patch.specs.Layout.{Field, envelope_field, scaling_field, operator_field, lfo_field, field_of}
use Rattle.patch.specs.Layout.{stages, scaling_names, operator_names, lfo_names, letters, layout, Rate, Letter}
use Rattle.patch.specs.Form.{scaling_number, operator_number, lfo_number, number_of, operator_at, patch_with}

-- a field's bits in the bytes s: its byte from its lowest bit on, as wide as it is
unfoldable pub bits_in : List ℕ → Field → ℕ
bits_in s f = get_or s f.byte 0 / 2 ^ f.bit % 2 ^ f.width

-- the field's number there: its bits, clamped to its largest number
unfoldable pub read_in : List ℕ → Field → ℕ
read_in s f = min (bits_in s f) f.largest

-- a number is at most its field's largest
abbrev pub field_fits : Field → ℕ → Bool
field_fits f n = leb n f.largest

module _ {N : Type 0} (field : N → Field) where
  -- every number is at most its field's largest
  unfoldable pub within : (N → ℕ) → List N → Bool
  within g [] = true
  within g (n ∷ ns) = field_fits (field n) (g n) && within g ns

-- the patch in 128 bytes or more: each field's number, and all six operators active
unfoldable pub unpacked : List ℕ → Patch
unpacked s = patch_with (λ n. read_in s (field_of n)) 63

-- the rates or the levels of an envelope
unfoldable pub stages_fit : List ℕ → Bool
stages_fit l = within (λ i. envelope_field (Rate i)) (λ i. get_or l i 0) stages

unfoldable pub scaling_fits : KeyboardScaling → Bool
scaling_fits k = within scaling_field (scaling_number k) scaling_names

unfoldable pub operator_fits : Operator → Bool
operator_fits o = within operator_field (operator_number o) operator_names

-- for a largest pitch sensitivity
unfoldable pub modulations_fit : ModulationParameters → ℕ → Bool
modulations_fit m limit = within (lfo_field limit) (lfo_number m) lfo_names

unfoldable pub operators_fit : List Operator → Bool
operators_fit os =
    operator_fits (operator_at os 0)
    && operator_fits (operator_at os 1)
    && operator_fits (operator_at os 2)
    && operator_fits (operator_at os 3)
    && operator_fits (operator_at os 4)
    && operator_fits (operator_at os 5)

unfoldable pub name_fits : List ℕ → Bool
name_fits l = within (λ i. field_of (Letter i)) (λ i. get_or l i 0) letters

-- what 6 accepts: every field at most its largest number, and active operators 63
unfoldable pub patch_fits : Patch → Bool
patch_fits p = within field_of (number_of p) layout && eqb p.active_operators 63

-- 6 for a patch that does not fit
unfoldable pub check_of : Patch → Result Unit Refusal
check_of p = cond (patch_fits p) (Ok tt) (Err refusal.Field)

-- 1 and the patch as it was for fewer than 128 bytes, else the unpacked one; more bytes are ignored
unfoldable pub unpack_of : Patch → List ℕ → Result Patch (Refused Patch)
unpack_of p s = cond (ltb (length s) 128) (refused refusal.ShortPatch p) (Ok (unpacked s))
