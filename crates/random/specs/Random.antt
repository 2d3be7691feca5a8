-- The generator's next number and its draw. Definitions only, all to be believed.
use Rattle.std.specs.Prelude.{ℕ}
use Rattle.numbers.specs.F32.{◌⊘◌, decimal, as_float}
use Rattle.numbers.specs.Words.{sum32, product32}
use Rattle.random.specs.declared.Drawn.{Drawn}

-- the generator is a linear congruence at 32 bits
unfoldable pub next_number : ℕ → ℕ
next_number state = sum32 (product32 state 1664525) 1013904223

-- a draw is the next number over 2 ^ 32, and hands that number back
unfoldable pub draw : ℕ → Drawn
draw state = record { state = next_number state; value = as_float (next_number state) ⊘ decimal 4294967296 0 }
