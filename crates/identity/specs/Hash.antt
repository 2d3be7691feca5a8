-- 64-bit FNV-1a over the bits of samples. Definitions only.
use Rattle.std.specs.Prelude.{ℕ, ◌*◌, ◌%◌, ◌^◌, List, fold, bit_xor, to_bits, Float}
use Rattle.std.specs.Int.{to_le_bytes, w32}
use Rattle.std.specs.Float.{binary32}

-- what a hash begins with
abbrev pub hash_basis : ℕ
hash_basis = 0xcbf29ce484222325

-- a byte: mixed in by an exclusive or, then times 1b3 + 2 ^ 40 at 64 bits
unfoldable pub hashed_byte : ℕ → ℕ → ℕ
hashed_byte h b = bit_xor h b * 0x100000001b3 % 2 ^ 64

-- the four bytes of a word, least first
unfoldable pub hashed_word : ℕ → ℕ → ℕ
hashed_word h w = fold hashed_byte h (to_le_bytes w32 w)

-- samples, in order; a NaN counts as 7fc00000
unfoldable pub hashed_samples : ℕ → List Float → ℕ
hashed_samples h samples = fold (λ h x. hashed_word h (to_bits binary32 x)) h samples
