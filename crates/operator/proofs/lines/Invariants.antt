-- `operator::lines` meets its contract. Assumes nothing.
use Rattle.operator.specs.declared.Feedback.{Feedback}
use Rattle.operator.proofs.Parts.{Running}
use Rattle.operator.proofs.lines.Given as goal

abbrev pub invariant-loop-k : goal.invariant-loop-k
invariant-loop-k l =
    (f : Feedback) → Running l.pairs l.modulation l.add l.i l.initial.lane f l.initial.out l.k l.lane l.out
