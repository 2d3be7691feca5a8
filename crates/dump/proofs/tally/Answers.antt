-- `dump::tally` meets its contract. The invariant: sum and largest are those of the bytes passed. Assumes nothing.
use mathlib.Core.Path.{refl}
use Prim.Native.Nat.{◌<◌}
use native.Mathlib.Omega.{arith}
use lib.ListN.{length}
use Rattle.dump.specs.Dump.{total, largest_of}
use Rattle.dump.proofs.Sums.{total_take, largest_take}
use Rattle.dump.proofs.tally.Goals as goal

pub loop-b-init : goal.loop-b-init
unfolding total largest_of
loop-b-init c = (refl, refl)

pub loop-b-preserved : goal.loop-b-preserved
loop-b-preserved c =
    let s = c.args.s.now in
    let i = c.loop-b.b-index in
    let h : i < length s = omega arith in
    let t = total_take s i h in
    let m = largest_take s i h in
    (omega arith, omega (arith, c.max-largest.ensures))
