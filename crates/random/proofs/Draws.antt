-- A law of the draw. Assumes nothing.
use mathlib.Core.Path.{◌≡◌, refl}
use lib.Ieee.{of_int, div}
use Rattle.numbers.specs.F32.{decimal}
use Rattle.random.specs.Random.{next_number, draw}

-- a draw can be exactly 1: after this number comes 2 ^ 32 - 1, which is rounded up
pub draw_can_be_one : (draw 653637408).value ≡ decimal 1 0
unfolding draw next_number of_int div decimal
draw_can_be_one = refl
