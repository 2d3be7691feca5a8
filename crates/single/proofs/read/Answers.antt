-- `single::read` meets its contract: a refusal gets the patch. Assumes nothing.
use mathlib.Core.Path.{sym}
use Rattle.single.specs.Single.{read_of}
use Rattle.single.proofs.read.Goals as goal

pub returns-in-Ok : goal.returns-in-Ok
unfolding read_of
returns-in-Ok c = rw (sym c.in-Ok.ensures)

pub returns-in-Err : goal.returns-in-Err
unfolding read_of
returns-in-Err c = rw (sym c.in-Err.ensures)
