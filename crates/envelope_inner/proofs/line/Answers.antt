-- `envelope_inner::line` meets its contract. Assumes nothing.
use mathlib.Core.Path.{refl}
use Rattle.envelope_inner.specs.Envelope.{line}
use Rattle.envelope_inner.proofs.line.Goals as goal

pub returns : goal.returns
unfolding line
returns c = refl
