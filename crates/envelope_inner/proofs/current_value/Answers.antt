-- `envelope_inner::current_value` meets its contract. Assumes nothing.
use Rattle.envelope_inner.specs.Envelope.{current_value}
use Rattle.envelope_inner.proofs.current_value.Goals as goal

pub returns : goal.returns
unfolding current_value
returns c = rw c.position.ensures at c.value.ensures
