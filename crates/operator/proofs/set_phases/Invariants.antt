-- `operator::set_phases` meets its contract. Assumes nothing.
use Rattle.std.proofs.Common.{◌≡◌, length}
use Rattle.operator.proofs.Parts.{Placing}
use Rattle.operator.proofs.set_phases.Given as goal

abbrev pub invariant-loop-k : goal.invariant-loop-k
invariant-loop-k l = Placing l.modulation l.i l.phase l.step l.k l.p l.at × (length l.at ≡ 64)
