-- `patch_numbers::numbers` meets its contract. The invariant: the first k operators' numbers stand before zeros.
-- Assumes nothing.
use mathlib.Core.Path.{◌≡◌}
use mathlib.Core.List.{◌++◌}
use Prim.Native.Nat.{◌*◌}
use lib.ListN.{drop, replicate}
use Rattle.lent_bytes.proofs.Blocks.{blocks}
use Rattle.patch_numbers.proofs.RoundTrip.{operator_block}
use Rattle.patch_numbers.proofs.numbers.Given as goal

abbrev pub invariant-loop-k : goal.invariant-loop-k
invariant-loop-k l = l.out ≡ blocks (operator_block l.fn.patch) l.k ++ drop (21 * l.k) (replicate 155 0)
