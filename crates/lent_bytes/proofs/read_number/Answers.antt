-- The two bytes are the number's.
use Rattle.lent_bytes.specs.TwoBytes.{number_at}
use Rattle.lent_bytes.proofs.read_number.Goals as goal

pub returns : goal.returns
unfolding number_at
returns c = c.from_le_bytes.ensures
