-- `voice_levels::Scene::amplitudes_of` meets its contract. The loop's invariant: the numbers are what the first i
-- amplitudes make of the levels. Assumes nothing.
use Rattle.std.proofs.Common.{◌≡◌, ◌<◌, refl, arith}
use Rattle.std.proofs.lemmas.List.{get_or-take, length-take}
use Rattle.patch.specs.Form.{operator_at, no_operator, scaling_with}
use Rattle.patch.specs.declared.Operator.{Operator}
use Rattle.voice_levels.specs.Levels.{amplitudes_to}
use Rattle.voice_setup.proofs.Operators.{limits, operator_at_fits}
use Rattle.voice_levels.proofs.Calls.{sounded_next}
use Rattle.voice_levels.proofs.Scene.amplitudes_of.Goals as goal

pub loop-i-init : goal.loop-i-init
unfolding amplitudes_to
loop-i-init c = refl

pub amplitude-requires : goal.amplitude-requires
unfolding operator_at no_operator scaling_with
amplitude-requires c =
    let within : c.loop-i.i < c.args.operators = omega (arith, length-take {A = Operator}) in
    rw get_or-take
    (limits (operator_at c.args.op c.loop-i.i)
    (operator_at_fits c.args.op c.loop-i.i (omega arith) c.requires.1)).sensitivity

pub loop-i-preserved : goal.loop-i-preserved
unfolding operator_at no_operator scaling_with
loop-i-preserved c =
    let a = c.args in
    let within : c.loop-i.i < a.operators = omega (arith, length-take {A = Operator}) in
    sounded_next a.self a.op a.levels c.loop-i.i c.loop-i.invariant (rw get_or-take at c.amplitude.ensures)

pub returns : goal.returns
returns c =
    let all : c.loop-i.i ≡ c.args.operators = omega (arith, length-take {A = Operator}) in
    rw all at c.loop-i.invariant
