-- `patch::unpack` meets its contract. The length decides. Assumes nothing.
use borrow.Author.Tests.{le-ltb, lt-ltb}
use Rattle.patch.specs.Packed.{unpack_of}
use Rattle.patch.proofs.unpack.Goals as goal

pub returns-then-is_short : goal.returns-then-is_short
unfolding unpack_of
returns-then-is_short c = simp (lt-ltb _ _ c.if-is_short.true)

pub returns : goal.returns
unfolding unpack_of
returns c = simp (le-ltb _ _ c.if-is_short.false, c.unpack_whole.ensures)
