-- `voice_levels::Scene::raise_operators` meets its contract. The loop's invariant: the levels are what the first i
-- operators make of the start.
-- Assumes nothing.
use Rattle.std.proofs.Common.{◌≡◌, ◌<◌, refl, arith}
use Rattle.std.proofs.lemmas.List.{get_or-take, length-take}
use lib.Ieee.{of_bits}
use Rattle.numbers.specs.F32.{decimal}
use Rattle.patch.specs.Form.{operator_at, no_operator, scaling_with}
use Rattle.patch.specs.declared.Operator.{Operator}
use Rattle.voice_levels.specs.Levels.{put_at, raised_to}
use Rattle.voice_levels.proofs.Stages.{stage_at_fits}
use Rattle.voice_levels.proofs.Calls.{raised_next}
use Rattle.voice_levels.proofs.Scene.raise_operators.Goals as goal

pub loop-i-init : goal.loop-i-init
unfolding raised_to decimal of_bits
loop-i-init c = rw c.all_as_asked-marks.ensures refl

pub raise_operator-one-requires : goal.raise_operator-one-requires
raise_operator-one-requires c =
    stage_at_fits c.args.operator_envelope c.loop-i.i c.requires.1

pub loop-i-preserved : goal.loop-i-preserved
unfolding operator_at no_operator scaling_with put_at
loop-i-preserved c =
    let a = c.args in
    let within : c.loop-i.i < a.operators = omega (arith, length-take {A = Operator}) in
    raised_next a.self a.op a.ratios a.level_headroom a.row a.operator_envelope c.loop-i.i c.loop-i.invariant
    c.frequency.ensures c.frequency_step-s.ensures (rw get_or-take at c.raise_operator-one.ensures)
    c.move_to.ensures

pub returns : goal.returns
returns c =
    let all : c.loop-i.i ≡ c.args.operators = omega (arith, length-take {A = Operator}) in
    rw all at c.loop-i.invariant
