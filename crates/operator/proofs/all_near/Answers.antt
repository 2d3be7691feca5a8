-- `operator::all_near` meets its contract. Assumes nothing.
use Rattle.operator.proofs.Parts.{near_turn, near_done}
use Rattle.operator.proofs.all_near.Goals as goal

pub loop-pm-preserved : goal.loop-pm-preserved
loop-pm-preserved c =
    near_turn _ _ c.loop-pm.near c.is_near-near.result c.loop-pm.invariant c.loop-pm-test.true
    c.is_near-near.ensures

pub returns : goal.returns
returns c = near_done _ _ _ c.loop-pm.invariant c.loop-pm-test.false
