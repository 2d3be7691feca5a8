-- A bank that comes in pieces: what each byte does, what a call takes and reports, and what the end says. A byte has a
-- place, which is how many came before it: six bytes of the frame, 4,096 of data, the checksum, the last byte, and what
-- is too much. Definitions only, all to be believed.
use Rattle.std.specs.Prelude.{Bool, true, false, cond, ◌&&◌, ◌||◌, not, List, [], ◌∷◌, ℕ, ◌+◌, ◌-◌, ◌/◌, ◌%◌}
use Rattle.std.specs.Prelude.{min, length, get_or, take, set, fold, eqb, leb, ltb, Result, Ok, Err}
use Rattle.std.specs.Prelude.{Option, None, Some}
use Rattle.std.specs.Result.{result_map_both}
use Rattle.refusals.specs.declared.Refusal.{Refusal}
use Rattle.refusals.specs.declared.Refusal.TheVariants.{ForeignState, WrongLength, FrameByte, HighByte, Checksum}
use Rattle.refusals.specs.declared.Refused.{Refused}
use Rattle.refusals.specs.Answer.{refused}
use Rattle.dump.specs.Dump.{in_row, total, largest_of}
use Rattle.bank.specs.Bank.{bank_form}
use Rattle.bank_pieces.specs.declared.Receiver.{Receiver}
use Rattle.bank_pieces.specs.declared.Taken.{Taken}
use Rattle.bank_pieces.specs.declared.Ended.{Ended}

-- THE READER before the first byte
unfoldable pub fresh : Receiver
fresh = record { count = 0; frame = 0; sum = 0; ended = false }

-- a reader that has not ended and that some pieces leave so: no sum before a patch was complete, no channel before the
-- third byte, nothing wrong before the first
unfoldable pub possible : Receiver → Bool
possible r =
    not r.ended
    && (leb 134 r.count
    || (eqb r.sum 0 && (leb 3 r.count || eqb r.frame 0 || (eqb r.frame 255 && ltb 0 r.count))))

-- the count with some bytes more: it stops at the largest number of the machine and never wraps
abbrev pub counting : ℕ → ℕ → ℕ
counting count more = min (count + more) 18446744073709551615

-- THE FRAME: whether a byte is right at its place, as every byte is that is not the frame's
unfoldable pub is_right : ℕ → ℕ → Bool
is_right place b =
    cond (ltb place 6) (in_row (get_or bank_form.header place (record { from = 0; to = 0 })) b)
    (cond (eqb place 4103) (in_row bank_form.last b) true)

-- what is kept of it: the third byte, or 255 once another one was wrong
unfoldable pub frame_with : ℕ → ℕ → ℕ → ℕ
frame_with place frame b = cond (eqb place 2) (cond (eqb frame 255) 255 b) (cond (is_right place b) frame 255)

-- THE SUM with the bytes of a patch more: modulo 128, and 128 more once a byte was above 127
unfoldable pub summed_with : ℕ → List ℕ → ℕ
summed_with sum bytes = cond (leb sum 127 && leb (largest_of bytes) 127) 0 128 + (sum + total bytes) % 128

-- what the checksum leaves of it: 0 where it completes the sum, and never 0 where it is above 127
unfoldable pub checked_with : ℕ → ℕ → ℕ
checked_with sum c = cond (leb sum 127) 0 128 + cond (leb c 127) ((sum + c) % 128) 1

-- a byte that is no data
unfoldable pub passed : Receiver → ℕ → Receiver
passed r b = record {
  count = counting r.count 1;
  frame = frame_with r.count r.frame b;
  sum = cond (eqb r.count 4102) (checked_with r.sum b) r.sum;
  ended = r.ended;
}

abbrev pub passed_all : Receiver → List ℕ → Receiver
passed_all r bytes = fold passed r bytes

-- the reader and the lent buffer, in which the bytes of the patch at hand stand
pub record Held : Type 0 where
  pub receiver : Receiver
  pub patch : List ℕ

-- where a byte of data stands in its patch, and in which slot that is
abbrev pub place_in : ℕ → ℕ
place_in count = (count - 6) % 128

abbrev pub slot_at : ℕ → ℕ
slot_at count = (count - 6) / 128

-- a byte of data goes to its place; with the last one of a patch the sum goes on
unfoldable pub stored : Held → ℕ → Held
stored h b = record {
  receiver = record {
    count = counting h.receiver.count 1;
    frame = h.receiver.frame;
    sum =
        cond (eqb (place_in h.receiver.count) 127)
        (summed_with h.receiver.sum (set h.patch (place_in h.receiver.count) b)) h.receiver.sum;
    ended = h.receiver.ended;
  };
  patch = set h.patch (place_in h.receiver.count) b;
}

-- WHAT A BYTE DOES
unfoldable pub came : Held → ℕ → Held
came h b =
    cond (leb 6 h.receiver.count && ltb h.receiver.count 4102) (stored h b)
    (record { receiver = passed h.receiver b; patch = h.patch })

unfoldable pub came_all : Held → List ℕ → Held
came_all h [] = h
came_all h (b ∷ bs) = came_all (came h b) bs

-- how many bytes are missing up to the end of the patch at hand, before the first patch those of the frame too
unfoldable pub missing : ℕ → ℕ
missing count = (6 - count) + (128 - place_in count)

-- whether so many bytes complete a patch: none behind the 32nd
unfoldable pub completes : ℕ → ℕ → Bool
completes count size = ltb count 4102 && leb (missing count) size

-- HOW MANY BYTES A CALL TAKES: it stops behind a complete patch, or takes all
unfoldable pub takes : ℕ → ℕ → ℕ
takes count size = cond (completes count size) (missing count) size

-- what an accepted piece gives, and the lent buffer afterwards
pub record Took : Type 0 where
  pub taken : Taken
  pub patch : List ℕ

-- the bytes that are taken came, one after the other
unfoldable pub took : Receiver → List ℕ → List ℕ → Took
took r piece patch = record {
  taken = record {
    receiver =
        (came_all (record { receiver = r; patch = patch }) (take (takes r.count (length piece)) piece)).receiver;
    taken = takes r.count (length piece);
    complete = cond (completes r.count (length piece)) (Some (slot_at r.count)) None;
  };
  patch = (came_all (record { receiver = r; patch = patch }) (take (takes r.count (length piece)) piece)).patch;
}

-- what a call answers, and the lent buffer afterwards
pub record Answered : Type 0 where
  pub answer : Result Taken (Refused Receiver)
  pub patch : List ℕ

-- of an accepted piece
abbrev pub accepted : Took → Answered
accepted t = record { answer = Ok t.taken; patch = t.patch }

-- A PIECE: 9 for a reader that has ended or is not possible, and nothing changes
unfoldable pub take_of : Receiver → List ℕ → List ℕ → Answered
take_of r piece patch =
    cond (possible r) (accepted (took r piece patch)) (record { answer = refused ForeignState r; patch = patch })

-- why the dump that came is refused, in the order of whole dumps
unfoldable pub closing : Receiver → Result (Unit {0}) Refusal
closing r =
    cond (eqb r.count 4104)
    (cond (leb r.frame 15)
    (cond (leb r.sum 127) (cond (eqb r.sum 0) (Ok tt) (Err Checksum)) (Err HighByte)) (Err FrameByte))
    (Err WrongLength)

-- the reader that has ended
abbrev pub closed : Receiver → Receiver
closed r = record { count = r.count; frame = r.frame; sum = r.sum; ended = true }

-- THE END: the channel, or why the dump is refused; the reader has ended, whatever it is. 9 as for a piece
unfoldable pub end_of : Receiver → Result Ended (Refused Receiver)
end_of r =
    cond (possible r)
    (result_map_both (λ u. record { receiver = closed r; channel = r.frame })
    (λ e. record { refusal = e; state = closed r }) (closing r))
    (refused ForeignState r)
