-- `operator::all_near` meets its contract. Assumes nothing.
use Rattle.std.proofs.Common.{◌≡◌, ◌&&◌, drop}
use Rattle.operator.specs.Parts.{all_near}
use Rattle.operator.proofs.all_near.Given as goal

abbrev pub invariant-loop-pm : goal.invariant-loop-pm
invariant-loop-pm l = (l.near && all_near (drop l.pm-index l.modulation)) ≡ all_near l.modulation
