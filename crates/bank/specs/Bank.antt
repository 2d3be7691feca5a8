-- A bank, a dump of 32 packed patches: its form, why it is refused, its channel and the part of a slot. Definitions
-- only, all to be believed.
use Rattle.std.specs.Prelude.{◌≡◌, cond, List, [], ◌++◌, ℕ, zero, suc, ◌+◌, ◌*◌, take, drop, leb, Result, Ok, Err}
use Rattle.std.specs.Result.{result_and, result_map_both, result_unwrap_or}
use Rattle.std.specs.Borrow.{Bor}
use Rattle.refusals.specs.declared.Refusal.{Refusal}
use Rattle.refusals.specs.declared.Refusal.TheVariants.{WrongTable}
use Rattle.dump.specs.declared.Form.{Form}
use Rattle.dump.specs.Dump.{yamaha_form, dump_check, dump_channel}

-- THE FORM: F0 43 0n 09 20 00, n the channel, 4,096 data bytes, the checksum, F7
unfoldable pub bank_form : Form
bank_form = yamaha_form 0x09 4096

-- why a bank's dump is refused
abbrev pub validate_of : List ℕ → Result (Unit {0}) Refusal
validate_of dump = dump_check bank_form dump

-- why a slot of a dump is: a slot above 31 before the dump
abbrev pub check_of : List ℕ → ℕ → Result (Unit {0}) Refusal
check_of dump slot = cond (leb slot 31) (validate_of dump) (Err WrongTable)

-- a bank's channel, or why it is refused
abbrev pub channel_of : List ℕ → Result ℕ Refusal
channel_of dump = dump_channel bank_form dump

-- the 128 bytes of a slot
unfoldable pub slot_of : List ℕ → ℕ → List ℕ
slot_of dump slot = take 128 (drop (6 + slot * 128) dump)

-- the part that is handed back, or why there is none
abbrev pub part_of : List ℕ → ℕ → Result (List ℕ) Refusal
part_of dump slot = result_and (check_of dump slot) (Ok (slot_of dump slot))

-- where a slot stands in a lent dump: in the dump's own block of memory, so far behind the dump's start
unfoldable pub slot_at : Bor (List ℕ) → ℕ → ℕ × ℕ
slot_at dump slot = (dump.ref_ptr.0, dump.ref_ptr.1 + (6 + slot * 128))

-- and where the part does
abbrev pub place_of : Bor (List ℕ) → ℕ → Result (ℕ × ℕ) Refusal
place_of dump slot = result_and (check_of dump.now slot) (Ok (slot_at dump slot))

-- a part that is handed back: its bytes, and where they stand, in the dump itself
pub record Handed (dump : Bor (List ℕ)) (slot : ℕ) (part : Result (Bor (List ℕ)) Refusal) : Type 0 where
  pub bytes : result_map_both (λ p. p.now) (λ e. e) part ≡ part_of dump.now slot
  pub place : result_map_both (λ p. p.ref_ptr) (λ e. e) part ≡ place_of dump slot

-- the parts of the slots below n, one behind the other; nothing stands for one that is refused
unfoldable pub parts_of : List ℕ → ℕ → List ℕ
parts_of dump zero = []
parts_of dump (suc n) = parts_of dump n ++ result_unwrap_or (part_of dump n) []
