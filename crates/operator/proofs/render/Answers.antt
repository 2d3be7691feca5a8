-- `operator::render` meets its contract: a turn of its loop is a sample of the definition, and a turn of the inner one
-- an operator of it. Assumes nothing.
use Rattle.std.proofs.Common.{◌≤◌, ◌<◌, ◌∙◌, refl, length, ap, arith}
use Rattle.operator.specs.Chain.{through}
use Rattle.operator.proofs.Loop.{going_first, turn_parts, going_done, passed_first, passed_turn, passed_done}
use Rattle.operator.proofs.render.Goals as goal

pub loop-i-init : goal.loop-i-init
loop-i-init g c = (going_first, refl)

pub enter-pm-requires : goal.enter-pm-requires
enter-pm-requires g c = c.requires _ c.loop-i-test.true

pub loop-lane-init : goal.loop-lane-init
loop-lane-init g c = passed_first

pub loop-lane-preserved : goal.loop-lane-preserved
loop-lane-preserved g c =
    let within : c.loop-lane.lane-index < length c.loop-lane.lane-items = omega (arith, c.loop-lane.invariant.size) in
    passed_turn _ c.loop-lane.invariant within refl c.sample-pm.ensures c.advance.ensures

pub loop-i-preserved : goal.loop-i-preserved
loop-i-preserved g c =
    let past : length c.loop-lane.lane-items ≤ c.loop-lane.lane-index = omega (arith, c.loop-lane.invariant.size) in
    let all = passed_done c.loop-lane.invariant past in (
      turn_parts c.loop-i.invariant.0 (omega (arith, c.loop-i.auto.out))
          (all.0 ∙ ap (through _ _) c.enter-pm.ensures) all.1 c.keep-feedback.ensures c.mix.ensures,
      c.loop-lane.invariant.size ∙ c.loop-i.invariant.1,
    )

pub returns : goal.returns
returns g c = going_done c.loop-i.invariant.0 (omega (arith, c.loop-i.auto.out))
