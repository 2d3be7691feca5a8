-- The 32 parts of a sound bank are its data, in order. Assumes nothing.
use mathlib.Core.Path.{◌≡◌, refl, sym, ◌∙◌, ap, ap₂}
use mathlib.Core.List.{List, [], ◌++◌}
use Prim.Native.Nat.{ℕ, zero, suc, ◌*◌, ◌≤◌}
use native.Mathlib.Nat.{suc-mul}
use native.Mathlib.Omega.{arith}
use lib.ListN.{length, take, drop, length-take, length-drop}
use lib.Seq.{take-add, drop-drop}
use Rattle.std.specs.Prelude.{Result, Ok}
use Rattle.std.specs.Result.{result_unwrap_or}
use Rattle.refusals.specs.declared.Refusal.{Refusal}
use Rattle.dump.specs.Dump.{data_of}
use Rattle.bank.specs.Bank.{bank_form, validate_of, slot_of, part_of, parts_of}
use Rattle.bank.proofs.Numbers.{sound_length, slot_sound}

module _ (dump : List ℕ) (sound : validate_of dump ≡ Ok tt) where
  -- a slot's part is its 128 bytes
  pub part_of_sound : (slot : ℕ) → slot ≤ 31 → part_of dump slot ≡ Ok (slot_of dump slot)
  part_of_sound slot h = rw (slot_sound dump slot h sound)

  pub length_slot : (slot : ℕ) → slot ≤ 31 → length (slot_of dump slot) ≡ 128
  unfolding slot_of
  length_slot slot h = simp (length-take, length-drop, sound_length dump sound) (omega arith)

  -- the first n parts are the first n times 128 data bytes
  first_parts : (n : ℕ) → n ≤ 32 → parts_of dump n ≡ take (n * 128) (drop 6 dump)
  unfolding parts_of slot_of
  first_parts zero h = refl
  first_parts (suc n) h =
      ap₂ ◌++◌ (first_parts n (omega arith))
      (ap (λ (r : Result (List ℕ) Refusal). result_unwrap_or r []) (part_of_sound n (omega arith))
      ∙ ap (take 128) (sym (drop-drop (n * 128) 6 dump)))
      ∙ sym (take-add (n * 128) 128 (drop 6 dump))
      ∙ ap (λ (k : ℕ). take k (drop 6 dump)) (sym (suc-mul n 128))

  pub parts_are_data : parts_of dump 32 ≡ data_of bank_form dump
  unfolding bank_form
  parts_are_data = first_parts 32 (omega arith)
