-- `voice_block::Operators::take_out` meets its contract. Assumes nothing.
use Rattle.std.proofs.Common.{◌≤◌, ◌<◌, ◌∙◌, refl, length, arith}
use lib.ListN.{length-set, length-replicate}
use Rattle.operator.specs.declared.Lane.{Lane}
use Rattle.voice_block.specs.Calls.{lane_at, lanes_at}
use Rattle.voice_block.proofs.State.{taken_turn, taken_done}
use Rattle.voice_block.proofs.Operators.take_out.Goals as goal

pub loop-k-init : goal.loop-k-init
unfolding lanes_at
loop-k-init g c = (refl, refl)

pub loop-k-preserved : goal.loop-k-preserved
unfolding lane_at
loop-k-preserved g c =
    let within : c.loop-k.k < length c.loop-k.lane-items = omega (arith, length-replicate {A = Lane}) in
    (taken_turn _ _ _ _ _ _ c.loop-k.invariant.0 within c.enter.ensures, length-set _ _ _ ∙ c.loop-k.invariant.1)

pub returns : goal.returns
returns g c =
    let past : length c.loop-k.lane-items ≤ c.loop-k.k = omega (arith, length-replicate {A = Lane}) in
    taken_done _ _ _ _ _ _ c.loop-k.invariant.0 (omega arith) past
