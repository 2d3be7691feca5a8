-- `refusals::digit` meets its contract. Assumes nothing.
use mathlib.Core.Path.{refl}
use Rattle.refusals.specs.Refusals.{digit}
use Rattle.refusals.proofs.digit.Goals as goal

pub returns : goal.returns
unfolding digit
returns c = refl
