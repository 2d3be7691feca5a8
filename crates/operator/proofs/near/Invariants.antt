-- `operator::near` meets its contract: part after part. Assumes nothing.
use Rattle.std.proofs.Common.{◌≡◌, ◌-◌, length}
use Rattle.operator.specs.Chain.{alone}
use Rattle.operator.specs.Chain.Source.{external}
use Rattle.operator.specs.Parts.{Going}
use Rattle.operator.proofs.near.Given as goal

abbrev pub invariant-loop-i : goal.invariant-loop-i
invariant-loop-i l =
    Going l.pairs (external l.modulation) l.add
    0 (alone l.initial.lane l.fn.chain.feedback) l.initial.out l.i (alone l.lane l.fn.chain.feedback) l.out
    × (length l.at ≡ 64)

abbrev pub decreases-loop-i : goal.decreases-loop-i
decreases-loop-i l = length l.out - l.i
