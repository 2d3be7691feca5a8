-- `envelope_inner::init` meets its contract: its numbers are what the definition computes. Assumes nothing.
use mathlib.Core.Path.{refl}
use lib.Ieee.{round, of_bits, of_int, div}
use Rattle.numbers.specs.F32.{decimal}
use Rattle.envelope_inner.specs.Envelope.{initialised}
use Rattle.envelope_inner.proofs.init.Goals as goal

pub returns : goal.returns
unfolding initialised decimal round of_bits of_int div
returns c = refl
