-- What the entries answer, test by test, over what the functions that they call give. Assumes nothing.
use mathlib.Core.Path.{◌≡◌, refl, sym, ◌∙◌, ap}
use mathlib.Core.Bool.{Bool, true, false, cond, and-eq-true_iff}
use mathlib.Core.List.{List}
use Prim.Native.Nat.{ℕ}
use lib.Dec.{leb}
use lib.ListN.{length}
use Rattle.std.specs.Prelude.{Result, Ok, Err}
use Rattle.std.specs.Result.{result_and}
use Rattle.refusals.specs.declared.Refusal.{Refusal}
use Rattle.refusals.specs.declared.Refusal.TheVariants.{Field}
use Rattle.dump.specs.Dump.{channel_byte, data_of, dump_check, dump_channel}
use Rattle.dump.proofs.Numbers.{sound, told, not_told}
use Rattle.patch.specs.declared.Patch.{Patch}
use Rattle.patch.specs.Layout.{lfo_sensitivity}
use Rattle.patch.specs.Packed.{patch_fits}
use Rattle.patch_packer.specs.Packing.{packed, pack_of}
use Rattle.patch_packer.proofs.Checked.{packed_when}
use Rattle.single.specs.declared.Parsed.{Parsed}
use Rattle.single.specs.Single.{single_form, patch_in, single_fits, parsed_of}

-- a sound dump has 163 bytes
pub sound_length : (dump : List ℕ) → dump_check single_form dump ≡ Ok tt → length dump ≡ 163
unfolding single_form
sound_length dump e = (sound single_form dump e).long

-- what fits here is what 6 accepts everywhere
pub fits_everywhere : (p : Patch) → single_fits p ≡ true → patch_fits p ≡ true
unfolding single_fits
fits_everywhere p e =
    ((and-eq-true_iff (patch_fits p) (leb p.modulations.pitch_mod_sensitivity lfo_sensitivity)).0 e).0

module _ (dump : List ℕ) where
  abbrev pub voice : Patch
  voice = patch_in (data_of single_form dump)

  -- reading, by the dump's check and the patch's
  pub parsed : dump_check single_form dump ≡ Ok tt → single_fits voice ≡ true
      → parsed_of dump ≡ Ok (record { channel = channel_byte dump; patch = voice })
  unfolding parsed_of
  parsed d f = rw (d, f)

  -- what reading says: the dump is sound, and its patch fits
  pub parsed_sound : (r : Parsed) → parsed_of dump ≡ Ok r
      → (dump_check single_form dump ≡ Ok tt) × (single_fits voice ≡ true)
      × (r ≡ record { channel = channel_byte dump; patch = voice })
  unfolding parsed_of
  parsed_sound r e = at (dump_check single_form dump) (single_fits voice) refl refl e
    where
      at : (d : Result (Unit {0}) Refusal) (f : Bool) → dump_check single_form dump ≡ d → single_fits voice ≡ f
          → result_and d (cond f (Ok (record { channel = channel_byte dump; patch = voice })) (Err Field)) ≡ Ok r
          → (dump_check single_form dump ≡ Ok tt) × (single_fits voice ≡ true)
          × (r ≡ record { channel = channel_byte dump; patch = voice })
      at (Ok u) true d f z = (d, f, cc)
      at (Ok u) false d f z = cc
      at (Err x) true d f z = cc
      at (Err x) false d f z = cc

  -- refused for the dump
  pub dump_refused : (x : Refusal) → Err x ≡ dump_channel single_form dump → parsed_of dump ≡ Err x
  unfolding parsed_of
  dump_refused x e = rw (not_told single_form dump x e)

  module _ (n : ℕ) (e : Ok n ≡ dump_channel single_form dump) where
    pub opened_length : length dump ≡ 163
    opened_length = sound_length dump (told single_form dump n e).0

    -- refused for the patch, and read
    module _ (v : Patch) (v-is : v ≡ voice) (b : Bool) (b-is : b ≡ single_fits v) where
      pub patch_refused : b ≡ false → Err Field ≡ parsed_of dump
      unfolding parsed_of
      patch_refused f =
          let not_fits : single_fits voice ≡ false = ap single_fits (sym v-is) ∙ sym b-is ∙ f in
          rw ((told single_form dump n e).0, not_fits)

      pub patch_read : b ≡ true → Ok (record { channel = n; patch = v }) ≡ parsed_of dump
      patch_read f =
          let t = told single_form dump n e in
          rw (← t.1, v-is) (sym (parsed t.0 (ap single_fits (sym v-is) ∙ sym b-is ∙ f)))

-- what is read is packed
pub packs : (dump : List ℕ) (r : Parsed) → parsed_of dump ≡ Ok r → pack_of r.patch ≡ Ok (packed r.patch)
packs dump r e =
    let s = parsed_sound dump r e in
    packed_when r.patch (fits_everywhere r.patch (rw s.2 s.1))
