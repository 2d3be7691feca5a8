-- The number of each refusal, and what an entry's answer says: its number, and the state that its caller goes on with.
use Rattle.std.specs.Prelude.{ℕ, Result, Ok, Err}
use Rattle.refusals.specs.declared.Refusal.{Refusal}
use Rattle.refusals.specs.declared.Refusal.TheVariants.{ShortPatch, WrongTable, NoRenderer, UnsetBuffer, SampleRate}
use Rattle.refusals.specs.declared.Refusal.TheVariants.{Field, Parameter, BlockLength, ForeignState, WrongLength}
use Rattle.refusals.specs.declared.Refusal.TheVariants.{FrameByte, HighByte, Checksum}
use Rattle.refusals.specs.declared.Refused.{Refused}

abbrev pub number_of : Refusal → ℕ
number_of ShortPatch = 1
number_of WrongTable = 2
number_of (NoRenderer at) = 3
number_of (UnsetBuffer at) = 4
number_of SampleRate = 5
number_of Field = 6
number_of Parameter = 7
number_of BlockLength = 8
number_of ForeignState = 9
number_of WrongLength = 10
number_of FrameByte = 11
number_of HighByte = 12
number_of Checksum = 13

-- the operator that 3 and 4 name; 0 with every other number
abbrev pub place_of : Refusal → ℕ
place_of ShortPatch = 0
place_of WrongTable = 0
place_of (NoRenderer at) = at
place_of (UnsetBuffer at) = at
place_of SampleRate = 0
place_of Field = 0
place_of Parameter = 0
place_of BlockLength = 0
place_of ForeignState = 0
place_of WrongLength = 0
place_of FrameByte = 0
place_of HighByte = 0
place_of Checksum = 0

-- the number of an answer: 0 for one that is no refusal
abbrev pub number_given : {T : Type 0} → Result T Refusal → ℕ
number_given (Ok x) = 0
number_given (Err e) = number_of e

-- ---- answers of entries that are given a state

-- a refusal, which hands the state back
abbrev pub refused : {T S : Type 0} → Refusal → S → Result T (Refused S)
refused refusal state = Err (record { refusal = refusal; state = state })

-- the number of an answer: 0 for one that is no refusal
abbrev pub number_told : {T S : Type 0} → Result T (Refused S) → ℕ
number_told (Ok x) = 0
number_told (Err e) = number_of e.refusal

-- the state that a caller goes on with
abbrev pub state_after : {S : Type 0} → Result S (Refused S) → S
state_after (Ok s) = s
state_after (Err e) = e.state
