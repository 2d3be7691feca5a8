-- The sine table as pairs: an entry, and beside it the way to the next one, so that a lookup reads two neighbours.
-- Definitions only, of a way of computing.
use Rattle.std.specs.Prelude.{List, [], ◌∷◌, ℕ, zero, suc, Float}
use Rattle.numbers.specs.F32.{◌⊖◌}
use Rattle.sine.specs.Table.{lut_sine}

-- each of a table's first n entries, and beside it the way to the next
unfoldable pub pairs_of : ℕ → List Float → List Float
pairs_of zero lut = []
pairs_of (suc n) [] = []
pairs_of (suc n) (a ∷ []) = []
pairs_of (suc n) (a ∷ b ∷ lut) = a ∷ (b ⊖ a) ∷ pairs_of n (b ∷ lut)

-- each of one turn's 512 entries, and beside it the way to the next
unfoldable pub sine_pairs : List Float
unfolding pairs_of
sine_pairs = pairs_of 512 lut_sine
