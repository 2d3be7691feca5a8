-- `operator::render` meets its contract: a turn of its loop is a sample of the definition, and a turn of the inner one
-- an operator of it. Assumes nothing.
use Rattle.std.proofs.Common.{◌≡◌, length}
use Rattle.operator.specs.Parts.{Going}
use Rattle.operator.proofs.Loop.{Passed}
use Rattle.operator.proofs.render.Given as goal

abbrev pub invariant-loop-i : goal.invariant-loop-i
invariant-loop-i g l =
    Going l.pairs (g.M.Modulation.source l.modulation) l.add
    0 (record { lanes = l.initial.lanes; feedback = l.initial.feedback })
    l.initial.out l.i (record { lanes = l.lanes; feedback = l.feedback }) l.out
    × (length l.lanes ≡ length l.initial.lanes)

abbrev pub invariant-loop-lane : goal.invariant-loop-lane
invariant-loop-lane g l = Passed l.pairs l.initial.lane-items l.initial.pm l.lane-index l.lane-items l.pm
