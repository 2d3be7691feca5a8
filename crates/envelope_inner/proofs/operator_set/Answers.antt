-- `envelope_inner::operator_set` meets its contract. Assumes nothing.
use Rattle.envelope_inner.specs.Set.{operator_set}
use Rattle.envelope_inner.proofs.operator_set.Goals as goal

pub returns : goal.returns
unfolding operator_set
returns c = simp (c.set.ensures, c.operator_increments-increments.ensures, c.operator_levels-levels.ensures)
