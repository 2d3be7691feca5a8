-- The plan printer's text as bytes, line by line. To be believed.
use Rattle.std.specs.Prelude.{ℕ, ◌+◌, ◌/◌, ◌%◌, ◌≡◌, Bool, cond, List, [], ◌∷◌, ◌++◌, eqb, ltb, length, take}
use Rattle.std.specs.Prelude.{Result, Ok, Err}
use Rattle.std.proofs.lemmas.List.Edits.{sets}
use Rattle.algorithms.specs.declared.Call.{Call}
use Rattle.algorithms.specs.declared.Plan.{Plan}
use Rattle.refusals.specs.declared.Refusal.{Refusal}
use Rattle.refusals.specs.declared.Refusal.TheVariants.{ShortPatch, WrongTable, NoRenderer, UnsetBuffer, SampleRate}
use Rattle.refusals.specs.declared.Refusal.TheVariants.{Field, Parameter, BlockLength, ForeignState, WrongLength}
use Rattle.refusals.specs.declared.Refusal.TheVariants.{FrameByte, HighByte, Checksum}
use Rattle.refusals.specs.Answer.{number_of}
use Rattle.algorithms.specs.Plan.{planned}
use Rattle.algorithms.specs.Table.{six}

-- a piece of text written at a place: what the buffer holds afterwards, and the place behind the piece
pub record Written (before : List ℕ) (at : ℕ) (piece : List ℕ) (after : List ℕ) (next : ℕ) : Type 0 where
  pub next_place : next ≡ at + length piece
  pub buffer : after ≡ sets before at piece

-- row
abbrev pub word_row : List ℕ
word_row = 114 ∷ 111 ∷ 119 ∷ []

-- calls, and a space
abbrev pub word_calls : List ℕ
word_calls = 99 ∷ 97 ∷ 108 ∷ 108 ∷ 115 ∷ 32 ∷ []

-- refused, and a space
abbrev pub word_refused : List ℕ
word_refused = 114 ∷ 101 ∷ 102 ∷ 117 ∷ 115 ∷ 101 ∷ 100 ∷ 32 ∷ []

-- at, between spaces
abbrev pub word_at : List ℕ
word_at = 32 ∷ 97 ∷ 116 ∷ 32 ∷ []

-- none, and a space
abbrev pub word_none : List ℕ
word_none = 110 ∷ 111 ∷ 110 ∷ 101 ∷ 32 ∷ []

-- external, and a space
abbrev pub word_external : List ℕ
word_external = 101 ∷ 120 ∷ 116 ∷ 101 ∷ 114 ∷ 110 ∷ 97 ∷ 108 ∷ 32 ∷ []

-- feedback, and a space
abbrev pub word_feedback : List ℕ
word_feedback = 102 ∷ 101 ∷ 101 ∷ 100 ∷ 98 ∷ 97 ∷ 99 ∷ 107 ∷ 32 ∷ []

-- set, and the end of the line
abbrev pub word_set : List ℕ
word_set = 115 ∷ 101 ∷ 116 ∷ 10 ∷ []

-- add, and the end of the line
abbrev pub word_add : List ℕ
word_add = 97 ∷ 100 ∷ 100 ∷ 10 ∷ []

-- a number of one digit
unfoldable pub digit : ℕ → ℕ
digit d = 48 + d % 10

-- a digit of a byte, lower-case
unfoldable pub hex_digit : ℕ → ℕ
hex_digit d = cond (ltb (d % 16) 10) (48 + d % 16) (87 + d % 16)

-- each byte in hex, behind a space
unfoldable pub bytes_text : List ℕ → List ℕ
bytes_text [] = []
bytes_text (b ∷ bs) = 32 ∷ hex_digit (b / 16) ∷ hex_digit b ∷ bytes_text bs

-- the line of the row
unfoldable pub row_text : List ℕ → List ℕ
row_text bytes = word_row ++ (bytes_text bytes ++ (10 ∷ []))

-- the line that counts the calls
unfoldable pub count_text : ℕ → List ℕ
count_text n = word_calls ++ (digit n ∷ 10 ∷ [])

-- what a call's input is: 0 none, 3 feedback, else external
unfoldable pub source_text : ℕ → List ℕ
source_text input = cond (eqb input 0) word_none (cond (eqb input 3) word_feedback word_external)

unfoldable pub way_text : Bool → List ℕ
way_text add = cond add word_add word_set

-- a call's line: first operator, length, source, input, output, way
unfoldable pub call_text : Call → List ℕ
call_text c =
    (digit c.first ∷ 32 ∷ digit c.n ∷ 32 ∷ [])
    ++ (source_text c.input ++ ((digit c.input ∷ 32 ∷ digit c.output ∷ 32 ∷ []) ++ way_text c.add))

unfoldable pub calls_text : List Call → List ℕ
calls_text [] = []
calls_text (c ∷ cs) = call_text c ++ calls_text cs

-- a refusal's line; only 3 and 4 name an operator
unfoldable pub at_text : Refusal → List ℕ
at_text (NoRenderer at) = word_at ++ (digit at ∷ 10 ∷ [])
at_text (UnsetBuffer at) = word_at ++ (digit at ∷ 10 ∷ [])
at_text ShortPatch = 10 ∷ []
at_text WrongTable = 10 ∷ []
at_text SampleRate = 10 ∷ []
at_text Field = 10 ∷ []
at_text Parameter = 10 ∷ []
at_text BlockLength = 10 ∷ []
at_text ForeignState = 10 ∷ []
at_text WrongLength = 10 ∷ []
at_text FrameByte = 10 ∷ []
at_text HighByte = 10 ∷ []
at_text Checksum = 10 ∷ []

unfoldable pub refusal_text : Refusal → List ℕ
refusal_text e = word_refused ++ (digit (number_of e) ∷ at_text e)

-- the whole text for what was compiled of the bytes
unfoldable pub planned_text : List ℕ → Result Plan Refusal → List ℕ
planned_text bytes (Ok p) = row_text bytes ++ (count_text p.count ++ calls_text (take p.count p.calls))
planned_text bytes (Err e) = refusal_text e

-- the whole text for a raw row; every length but 4 and 6 is refused with 2
unfoldable pub plan_text : List ℕ → List ℕ
plan_text bytes = planned_text bytes (planned (length bytes) (six bytes))
