-- The text of a refusal: `refused 13: wrong checksum`.
use Rattle.std.specs.Prelude.{ℕ, ◌+◌, ◌/◌, ◌%◌, ◌≤◌, ◌≡◌, cond, List, [], ◌∷◌, ◌++◌, ltb, length, get_or}
use Prim.Native.Char.{code}
use Prim.Native.String.{String, [] as none, ◌∷◌ as ◌then◌}
use Rattle.std.proofs.lemmas.List.Edits.{sets}

-- the words of each number, from 0 on; 0 refuses nothing
unfoldable pub words : List String
words =
    "nothing"
    ∷ "patch shorter than 128 bytes"
    ∷ "wrong number of operators, table, row or slot"
    ∷ "a call has no renderer"
    ∷ "a call reads or adds to an unset buffer"
    ∷ "sample rate outside 8,000 to 192,000"
    ∷ "a field above its largest number"
    ∷ "a parameter outside its range"
    ∷ "block of a wrong length"
    ∷ "a state that no call has left"
    ∷ "wrong length"
    ∷ "wrong frame byte"
    ∷ "data byte above 127"
    ∷ "wrong checksum"
    ∷ []

-- a number's words
unfoldable pub words_of : ℕ → String
words_of number = get_or words number "no such number"

-- a text's letters as bytes
unfoldable pub letters : String → List ℕ
letters none = []
letters (c then s) = code c ∷ letters s

unfoldable pub digit : ℕ → ℕ
digit n = 48 + n % 10

-- a number below 1,000 in decimal
unfoldable pub decimal : ℕ → List ℕ
decimal n =
    cond (ltb n 10) (digit n ∷ [])
    (cond (ltb n 100) (digit (n / 10) ∷ digit n ∷ []) (digit (n / 100) ∷ digit (n / 10) ∷ digit n ∷ []))

unfoldable pub refusal : ℕ → List ℕ
refusal number = letters "refused " ++ (decimal number ++ (letters ": " ++ letters (words_of number)))

-- a text stored at the start of a buffer of 64 bytes, whose other bytes stayed, and its length, which was handed back
pub record Begins (before text after : List ℕ) (answer : ℕ) : Type 0 where
  pub size : answer ≡ length text
  pub fits : answer ≤ 64
  pub buffer : after ≡ sets before 0 text

-- a piece of text written at a place: what the buffer holds afterwards, and the place behind the piece
pub record Put (before : List ℕ) (at : ℕ) (piece : List ℕ) (after : List ℕ) (next : ℕ) : Type 0 where
  pub place : next ≡ at + length piece
  pub buffer : after ≡ sets before at piece
