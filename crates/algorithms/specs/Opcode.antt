-- What the bits of an operator's opcode say. Bits 3 and 7 are ignored. To be believed.
use Rattle.std.specs.Prelude.{ℕ, ◌/◌, ◌%◌, Bool, not, eqb}

-- destination 0x03: 0 is the output, 1 to 3 a scratch buffer
unfoldable pub destination : ℕ → ℕ
destination o = o % 4

-- add 0x04: the operator adds to its destination, and does not set it
unfoldable pub adding : ℕ → Bool
adding o = eqb (o / 4 % 2) 1

-- source 0x30: 0 none, 1 and 2 a buffer, 3 feedback
unfoldable pub source : ℕ → ℕ
source o = o / 16 % 4

-- feedback origin 0x40
unfoldable pub flagged : ℕ → Bool
flagged o = eqb (o / 64 % 2) 1

-- an operator is a modulator where its destination is not the output
unfoldable pub modulating : ℕ → Bool
modulating o = not (eqb (destination o) 0)
