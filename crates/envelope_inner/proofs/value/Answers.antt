-- `envelope_inner::value` meets its contract. Assumes nothing.
use Rattle.envelope_inner.specs.Envelope.{value_at}
use Rattle.envelope_inner.proofs.value.Goals as goal

pub returns : goal.returns
unfolding value_at
returns c = c.value_at.ensures
