-- `envelope_inner::pitch_set` meets its contract. Assumes nothing.
use Rattle.envelope_inner.specs.Set.{pitch_set}
use Rattle.envelope_inner.proofs.pitch_set.Goals as goal

pub returns : goal.returns
unfolding pitch_set
returns c = simp (c.set.ensures, c.pitch_increments-increments.ensures, c.pitch_levels-levels.ensures)
