-- `patch_packer::pack_whole` meets its contract. The invariant: the first k operators are pasted into zeros. Assumes
-- nothing.
use mathlib.Core.Path.{◌≡◌}
use Rattle.patch_packer.proofs.Bytes.{first_blocks}
use Rattle.patch_packer.proofs.pack_whole.Given as goal

abbrev pub invariant-loop-k : goal.invariant-loop-k
invariant-loop-k l = l.out ≡ first_blocks l.fn.p.op l.k
