-- A dump of any form: its frame, its channel, its data, its checksum and why it is refused. A form has a row for each
-- byte before the data, a number of data bytes, and a row for the last byte; the checksum stands between the data and
-- the last byte. Definitions only, all to be believed.
use Rattle.std.specs.Prelude.{Bool, true, cond, ◌&&◌, List, [], ◌∷◌, ℕ, suc, ◌+◌, ◌-◌, ◌/◌, ◌%◌, max}
use Rattle.std.specs.Prelude.{length, get_or, take, drop, set, eqb, leb, ltb, Result, Ok, Err}
use Rattle.std.specs.Result.{result_and}
use Rattle.refusals.specs.declared.Refusal.{Refusal}
use Rattle.refusals.specs.declared.Refusal.TheVariants.{WrongLength, FrameByte, HighByte, Checksum}
use Rattle.dump.specs.declared.Row.{Row}
use Rattle.dump.specs.declared.Form.{Form}

-- a byte within a row, from its least to its largest number
abbrev pub in_row : Row → ℕ → Bool
in_row r b = leb r.from b && leb b r.to

-- the bytes from place k on, each within its row
unfoldable pub in_rows : List Row → List ℕ → ℕ → Bool
in_rows [] dump k = true
in_rows (r ∷ rs) dump k = in_row r (get_or dump k 0) && in_rows rs dump (suc k)

-- the row of a fixed byte, and that of the channel: 0n (hex), n from 0 to 15, so the byte's upper half is 0
abbrev pub fixed : ℕ → Row
fixed b = record { from = b; to = b }

abbrev pub channel_row : Row
channel_row = record { from = 0x00; to = 0x0F }

-- YAMAHA'S FRAME: F0 43 0n, a format's number, its data's length in two bytes of seven bits, the high one first, the
-- data, the checksum, F7
abbrev pub yamaha_form : ℕ → ℕ → Form
yamaha_form format count = record {
  header =
      fixed 0xF0 ∷ fixed 0x43 ∷ channel_row ∷ fixed format ∷ fixed (count / 128 % 128) ∷ fixed (count % 128) ∷ [];
  count = count;
  last = fixed 0xF7;
}

-- the place of the checksum, and how many bytes the dump has
abbrev pub sum_place : Form → ℕ
sum_place f = length f.header + f.count

abbrev pub size_of : Form → ℕ
size_of f = sum_place f + 2

-- every byte of the frame is within its row
abbrev pub framed : Form → List ℕ → Bool
framed f dump = in_rows f.header dump 0 && in_row f.last (get_or dump (sum_place f + 1) 0)

-- the channel is the third byte, and a dump with another channel has another byte there
abbrev pub channel_byte : List ℕ → ℕ
channel_byte dump = get_or dump 2 0

abbrev pub with_channel : ℕ → List ℕ → List ℕ
with_channel n dump = set dump 2 n

-- the data bytes, and the checksum behind them
abbrev pub data_of : Form → List ℕ → List ℕ
data_of f dump = take f.count (drop (length f.header) dump)

abbrev pub sum_byte : Form → List ℕ → ℕ
sum_byte f dump = get_or dump (sum_place f) 0

-- the sum of bytes, and the largest of them
unfoldable pub total : List ℕ → ℕ
total [] = 0
total (b ∷ bs) = b + total bs

unfoldable pub largest_of : List ℕ → ℕ
largest_of [] = 0
largest_of (b ∷ bs) = max b (largest_of bs)

-- data plus checksum is 0 modulo 128, the checksum below 128
abbrev pub summed : List ℕ → ℕ → Bool
summed bytes c = eqb ((total bytes + c) % 128) 0 && ltb c 128

-- the checksum of some bytes: the one number that is so
abbrev pub checksum_of : List ℕ → ℕ
checksum_of bytes = (128 - total bytes % 128) % 128

-- what the check answers: why a dump is refused, in this order
unfoldable pub dump_check : Form → List ℕ → Result (Unit {0}) Refusal
dump_check f dump =
    cond (eqb (length dump) (size_of f))
    (cond (framed f dump)
    (cond (leb (largest_of (data_of f dump)) 127)
    (cond (summed (data_of f dump) (sum_byte f dump)) (Ok tt) (Err Checksum)) (Err HighByte)) (Err FrameByte))
    (Err WrongLength)

-- its channel, or why it is refused
abbrev pub dump_channel : Form → List ℕ → Result ℕ Refusal
dump_channel f dump = result_and (dump_check f dump) (Ok (channel_byte dump))
