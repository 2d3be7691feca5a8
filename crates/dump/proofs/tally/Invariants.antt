-- `dump::tally` meets its contract. The invariant: sum and largest are those of the bytes passed. Assumes nothing.
use mathlib.Core.Path.{◌≡◌}
use Prim.Native.Nat.{◌%◌}
use lib.ListN.{take}
use Rattle.dump.specs.Dump.{total, largest_of}
use Rattle.dump.proofs.tally.Given as goal

abbrev pub invariant-loop-b : goal.invariant-loop-b
invariant-loop-b l = (l.sum ≡ total (take l.b-index l.s) % 128) × (l.largest ≡ largest_of (take l.b-index l.s))
