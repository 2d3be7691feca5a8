-- A bank from one channel to another: the check's answer, its parts, its data and its checksum stay, so whatever is
-- made of them stays too, as the lines that `identify` prints. Assumes nothing.
use mathlib.Core.Path.{◌≡◌, refl, ◌∙◌, ap}
use mathlib.Core.List.{List}
use Prim.Native.Nat.{ℕ, zero, suc, ◌+◌, ◌*◌, ◌≤◌}
use native.Mathlib.Omega.{arith}
use lib.ListN.{take}
use lib.Seq.{drop-set-lt}
use Rattle.std.specs.Prelude.{Ok}
use Rattle.dump.specs.Dump.{channel_byte, with_channel, data_of, sum_byte}
use Rattle.dump.proofs.Channels.{sum_byte_with, check_with, sound_channel, sound_sixteen, told_with}
use Rattle.bank.specs.Bank.{bank_form, validate_of, channel_of, slot_of, part_of, parts_of}
use Rattle.bank.proofs.Parts.{parts_are_data}

module _ (n : ℕ) (dump : List ℕ) where
  -- a slot's bytes stay, whatever is written in the channel's place
  pub slot_with : (slot : ℕ) → slot_of (with_channel n dump) slot ≡ slot_of dump slot
  unfolding slot_of
  slot_with slot = ap (take 128) (drop-set-lt (6 + slot * 128) dump 2 n (omega arith))

  -- from one of the sixteen channels to another the check's answer and the parts stay, of damaged banks too
  module _ (from : channel_byte dump ≤ 15) (to : n ≤ 15) where
    pub validate_with : validate_of (with_channel n dump) ≡ validate_of dump
    unfolding bank_form
    validate_with = check_with 0x09 4096 n dump from to

    pub part_with : (slot : ℕ) → part_of (with_channel n dump) slot ≡ part_of dump slot
    part_with slot = rw (validate_with, slot_with slot)

    pub parts_with : (k : ℕ) → parts_of (with_channel n dump) k ≡ parts_of dump k
    unfolding parts_of
    parts_with zero = refl
    parts_with (suc k) = rw (parts_with k, part_with k)

-- a sound bank that has got another channel
pub record Changed (n : ℕ) (dump : List ℕ) : Type 0 where
  pub told : channel_of (with_channel n dump) ≡ Ok n
  pub parts : parts_of (with_channel n dump) 32 ≡ data_of bank_form dump
  pub checksum : sum_byte bank_form (with_channel n dump) ≡ sum_byte bank_form dump

module _ (dump : List ℕ) (sound : validate_of dump ≡ Ok tt) where
  -- the channel of a sound bank is one of sixteen
  pub bank_channel : channel_byte dump ≤ 15
  unfolding bank_form
  bank_channel = sound_channel 0x09 4096 dump sound

  -- a sound bank with another third byte is sound exactly if that is one of sixteen
  pub exactly_sixteen : (n : ℕ)
      → (validate_of (with_channel n dump) ≡ Ok tt → n ≤ 15) × (n ≤ 15 → validate_of (with_channel n dump) ≡ Ok tt)
  unfolding bank_form
  exactly_sixteen n =
      (sound_sixteen 0x09 4096 dump sound n, λ to. validate_with n dump bank_channel to ∙ sound)

  -- and then it has that channel, and the same data and checksum
  pub channel_changed : (n : ℕ) → n ≤ 15 → Changed n dump
  unfolding bank_form
  channel_changed n to = record {
    told = told_with 0x09 4096 dump sound n to;
    parts = parts_with n dump bank_channel to 32 ∙ parts_are_data dump sound;
    checksum = sum_byte_with 0x09 4096 n dump;
  }
