-- `single::turned` meets its contract. The invariant: the first i numbers are there. Assumes nothing.
use Rattle.single.proofs.Turns.{TurnedTo}
use Rattle.single.proofs.turned.Given as goal

abbrev pub invariant-loop-i : goal.invariant-loop-i
invariant-loop-i l = TurnedTo l.by l.s l.i l.number-items
