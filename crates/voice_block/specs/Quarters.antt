-- A block as its quarters. Definitions only.
use Rattle.std.specs.Prelude.{ℕ, zero, suc, ◌*◌, ◌≤◌, ◌≡◌, List, [], ◌∷◌, ◌++◌, length, take, drop, Float}

-- k parts of n samples each, one after the other
unfoldable pub split : ℕ → ℕ → List Float → List (List Float)
split n zero l = []
split n (suc k) l = take n l ∷ split n k (drop n l)

-- the parts as one list again
unfoldable pub joined : List (List Float) → List Float
joined [] = []
joined (q ∷ qs) = q ++ joined qs

-- four quarters of n samples, at most 1,024 each
pub record Quartered (n : ℕ) (block : List Float) : Type 0 where
  pub small : n ≤ 1024
  pub whole : length block ≡ 4 * n
