-- A bank's header, and what it says of a bank and a slot that the check accepts them. Assumes nothing.
use mathlib.Core.Path.{◌≡◌, refl}
use mathlib.Core.Bool.{Bool, true, false, cond}
use mathlib.Core.List.{List, [], ◌∷◌}
use Prim.Native.Nat.{ℕ, ◌≤◌}
use borrow.Author.Tests.{leb-true, le-leb}
use lib.Dec.{leb}
use lib.ListN.{length}
use Rattle.std.specs.Prelude.{Result, Ok, Err}
use Rattle.refusals.specs.declared.Refusal.{Refusal}
use Rattle.refusals.specs.declared.Refusal.TheVariants.{WrongTable}
use Rattle.dump.specs.Dump.{fixed, channel_row}
use Rattle.dump.proofs.Numbers.{sound}
use Rattle.bank.specs.Bank.{bank_form, validate_of, check_of}

-- the form's bytes, as document 02 writes them: F0 43 0n 09 20 00
pub bank_header : bank_form.header ≡ fixed 0xF0 ∷ fixed 0x43 ∷ channel_row ∷ fixed 0x09 ∷ fixed 0x20 ∷ fixed 0x00 ∷ []
unfolding bank_form
bank_header = refl

-- a sound bank has 4,104 bytes
pub sound_length : (dump : List ℕ) → validate_of dump ≡ Ok tt → length dump ≡ 4104
unfolding bank_form
sound_length dump e = (sound bank_form dump e).long

module _ (dump : List ℕ) where
  -- the check accepts no slot above 31, and no other dump
  pub sound_slot : (slot : ℕ) → check_of dump slot ≡ Ok tt → (length dump ≡ 4104) × (slot ≤ 31)
  sound_slot slot e = at (leb slot 31) refl e
    where
      at : (b : Bool) → leb slot 31 ≡ b
          → ◌≡◌ {A = Result (Unit {0}) Refusal} (cond b (validate_of dump) (Err WrongTable)) (Ok tt)
          → (length dump ≡ 4104) × (slot ≤ 31)
      at true q z = (sound_length dump z, leb-true slot 31 q)
      at false q z = cc

  -- and each slot up to 31 of a sound dump
  pub slot_sound : (slot : ℕ) → slot ≤ 31 → validate_of dump ≡ Ok tt → check_of dump slot ≡ Ok tt
  slot_sound slot h e = rw (le-leb slot 31 h) e
