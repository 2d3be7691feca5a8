-- `lent_bytes::put` meets its contract. The invariant: `out` is what it was with the first i bytes of b pasted in.
-- Assumes nothing.
use mathlib.Core.Path.{◌≡◌}
use lib.ListN.{length}
use lib.Seq.{paste}
use Rattle.lent_bytes.proofs.put.Given as goal

abbrev pub invariant-loop-i : goal.invariant-loop-i
invariant-loop-i l = (l.out ≡ paste l.initial.out l.at l.b l.i) × (length l.out ≡ length l.initial.out)
