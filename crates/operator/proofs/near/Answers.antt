-- `operator::near` meets its contract: part after part. Assumes nothing.
use Rattle.std.proofs.Common.{◌≡◌, ◌≤◌, refl, take, length, arith}
use Rattle.std.proofs.lemmas.List.{length-take-le}
use Rattle.operator.proofs.Loop.{going_first, going_on, going_done, lone}
use Rattle.operator.proofs.near.Goals as goal

pub loop-i-init : goal.loop-i-init
loop-i-init c = (going_first, refl)

pub loop-i-preserved : goal.loop-i-preserved
loop-i-preserved c =
    let n = c.min-n.result in
    let at = c.set_phases.new.at in
    let long : n ≤ length at = omega arith in
    let part : length (take n at) ≡ n = length-take-le n at long in (
      going_on c.loop-i.invariant.0 (rw part at (c.lines-lane.ensures c.args.chain.feedback)),
      c.set_phases.ensures.1,
    )

pub returns : goal.returns
returns c = lone c.args.chain.lanes _ _ (omega arith) (going_done c.loop-i.invariant.0 c.loop-i-test.false)
