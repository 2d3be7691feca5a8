-- `algorithms::grow` meets its contract. The loop's invariant: the chain is as long as the links and the chain behind
-- them. Assumes nothing.
use Prim.Native.Nat.{◌≤◌, ◌+◌, ◌-◌}
use mathlib.Core.Path.{◌≡◌}
use lib.ListN.{length, drop}
use Rattle.std.specs.Slice.Iter.{windows_size, windows_rest}
use Rattle.algorithms.specs.Chain.{grown}
use Rattle.algorithms.proofs.grow.Given as goal

abbrev pub invariant-loop-pair : goal.invariant-loop-pair
invariant-loop-pair l = record {
  two : windows_size l.pair-iterator ≡ 2;
  within : length (windows_rest l.pair-iterator) ≤ length l.os;
  rest : windows_rest l.pair-iterator ≡ drop (length l.os - length (windows_rest l.pair-iterator)) l.os;
  passed : l.links + length (windows_rest l.pair-iterator) ≡ length l.os;
  chain : grown l.os ≡ l.links + grown (drop l.links l.os);
}
