-- A number below 65,536 as two bytes, least first, in a slice at a place. Definitions only, all to be believed.
use Rattle.std.specs.Prelude.{List, [], ◌∷◌, ℕ, ◌+◌, ◌*◌, ◌/◌, ◌%◌, get_or}
use Rattle.std.proofs.lemmas.List.Edits.{sets}

-- the number at a place: the byte there, and 256 times the next
unfoldable pub number_at : List ℕ → ℕ → ℕ
number_at s at = get_or s at 0 + get_or s (at + 1) 0 * 256

-- a number's two bytes
unfoldable pub two_bytes : ℕ → List ℕ
two_bytes n = n % 256 ∷ n / 256 ∷ []

-- the slice with a number's bytes in the place of what stood there
unfoldable pub with_number : List ℕ → ℕ → ℕ → List ℕ
with_number s at n = sets s at (two_bytes n)
