-- A bank that comes in a list of pieces, rests given again, and the reports that must come of it. Definitions only, all
-- to be believed.
use Rattle.std.specs.Prelude.{◌≡◌, cond, List, [], ◌∷◌, ◌++◌, ℕ, zero, suc, ◌-◌, ◌/◌, min, length, take, drop, eqb}
use Rattle.std.specs.Prelude.{Result, Ok, Err, Option, None, Some}
use Rattle.std.specs.Result.{result_map_both, result_unwrap_or}
use Rattle.refusals.specs.declared.Refusal.{Refusal}
use Rattle.refusals.specs.declared.Refused.{Refused}
use Rattle.bank.specs.Bank.{slot_of, part_of, channel_of}
use Rattle.bank_pieces.specs.declared.Receiver.{Receiver}
use Rattle.bank_pieces.specs.declared.Taken.{Taken}
use Rattle.bank_pieces.specs.declared.Ended.{Ended}
use Rattle.bank_pieces.specs.Pieces.{fresh, Answered, take_of, end_of}

-- a reported patch: its slot and its bytes
pub record Report : Type 0 where
  pub slot : ℕ
  pub bytes : List ℕ

-- how far a line has come: the reader, the lent buffer, the reports in their order, and all bytes that were taken
pub record Line : Type 0 where
  pub receiver : Receiver
  pub patch : List ℕ
  pub reports : List Report
  pub bytes : List ℕ

-- a fresh reader, whatever stands in the buffer
abbrev pub begun : List ℕ → Line
begun patch = record { receiver = fresh; patch = patch; reports = []; bytes = [] }

-- the reader behind a call, how many bytes it took, and the slot of the patch that they end
abbrev pub after : Result Taken (Refused Receiver) → Receiver
after (Ok t) = t.receiver
after (Err e) = e.state

abbrev pub taken_by : Result Taken (Refused Receiver) → ℕ
taken_by (Ok t) = t.taken
taken_by (Err e) = 0

abbrev pub slot_told : Result Taken (Refused Receiver) → Option ℕ
slot_told (Ok t) = t.complete
slot_told (Err e) = None

-- what a call reports: the patch in the lent buffer, if one is complete
abbrev pub report_of : Option ℕ → List ℕ → List Report
report_of (Some slot) patch = record { slot = slot; bytes = patch } ∷ []
report_of None patch = []

unfoldable pub told : Answered → List Report
told a = report_of (slot_told a.answer) a.patch

-- ONE CALL
unfoldable pub called : Line → List ℕ → Line
called l piece = record {
  receiver = after (take_of l.receiver piece l.patch).answer;
  patch = (take_of l.receiver piece l.patch).patch;
  reports = l.reports ++ told (take_of l.receiver piece l.patch);
  bytes = l.bytes ++ take (taken_by (take_of l.receiver piece l.patch).answer) piece;
}

-- any calls, one after the other
unfoldable pub called_all : Line → List (List ℕ) → Line
called_all l [] = l
called_all l (piece ∷ pieces) = called_all (called l piece) pieces

-- ONE PIECE: what a call leaves of it is given again, so many turns at most
unfoldable pub giving : ℕ → Line → List ℕ → Line
giving zero l piece = l
giving (suc turns) l piece =
    cond (eqb (taken_by (take_of l.receiver piece l.patch).answer) (length piece)) (called l piece)
    (giving turns (called l piece) (drop (taken_by (take_of l.receiver piece l.patch).answer) piece))

-- a turn more than the piece has bytes is enough, since each call takes one at least
unfoldable pub given : Line → List ℕ → Line
given l piece = giving (suc (length piece)) l piece

-- A LIST OF PIECES, and all their bytes together
unfoldable pub given_all : Line → List (List ℕ) → Line
given_all l [] = l
given_all l (piece ∷ pieces) = given_all (given l piece) pieces

unfoldable pub together : List (List ℕ) → List ℕ
together [] = []
together (piece ∷ pieces) = piece ++ together pieces

-- THE FULL RUNS of 128 bytes from the seventh byte on, 32 at most and in order
unfoldable pub run_count : List ℕ → ℕ
run_count bytes = min 32 ((length bytes - 6) / 128)

unfoldable pub runs_below : List ℕ → ℕ → List Report
runs_below bytes zero = []
runs_below bytes (suc n) = runs_below bytes n ++ (record { slot = n; bytes = slot_of bytes n } ∷ [])

unfoldable pub runs_of : List ℕ → List Report
runs_of bytes = runs_below bytes (run_count bytes)

-- what the end tells: the channel, or why the dump is refused
abbrev pub told_at_end : Result Ended (Refused Receiver) → Result ℕ Refusal
told_at_end r = result_map_both (λ e. e.channel) (λ e. e.refusal) r

-- and the reader behind it
abbrev pub after_end : Result Ended (Refused Receiver) → Receiver
after_end (Ok e) = e.receiver
after_end (Err e) = e.state

-- WHAT A LINE MUST COME TO: the reports are the full runs of its bytes, and the end tells the channel, or the refusal,
-- that the reader of whole banks tells
pub record Agrees (l : Line) (bytes : List ℕ) : Type 0 where
  pub reported : l.reports ≡ runs_of bytes
  pub ending : told_at_end (end_of l.receiver) ≡ channel_of bytes

-- a bank's own parts, slot by slot
unfoldable pub parts_below : List ℕ → ℕ → List Report
parts_below bytes zero = []
parts_below bytes (suc n) =
    parts_below bytes n ++ (record { slot = n; bytes = result_unwrap_or (part_of bytes n) [] } ∷ [])
