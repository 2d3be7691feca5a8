-- `voice_setup::setup_operators` meets its contract. Assumes nothing.
use Rattle.std.proofs.Common.{◌≡◌, ◌<◌, refl, arith}
use Rattle.std.proofs.lemmas.List.{get_or-take, length-take}
use Rattle.patch.specs.Form.{operator_at, no_operator, scaling_with}
use Rattle.patch.specs.declared.Operator.{Operator}
use Rattle.voice_setup.specs.Setup.{put_at, set_up_to}
use Rattle.voice_setup.proofs.Operators.{operator_at_fits, set_up_next}
use Rattle.voice_setup.proofs.setup_operators.Goals as goal

pub loop-i-init : goal.loop-i-init
unfolding set_up_to
loop-i-init c = refl

pub operator_setup-one-requires : goal.operator_setup-one-requires
unfolding operator_at no_operator scaling_with
operator_setup-one-requires c =
    let within : c.loop-i.i < c.args.operators = omega (arith, length-take {A = Operator}) in
    rw get_or-take (operator_at_fits _ _ (omega arith) c.requires.1)

pub loop-i-preserved : goal.loop-i-preserved
unfolding operator_at no_operator scaling_with put_at
loop-i-preserved c =
    let within : c.loop-i.i < c.args.operators = omega (arith, length-take {A = Operator}) in
    set_up_next _ _ _ _ _ c.loop-i.invariant (rw get_or-take at c.operator_setup-one.ensures)

pub returns : goal.returns
returns c =
    let i : c.loop-i.i ≡ c.args.operators = omega (arith, length-take {A = Operator}) in
    rw i at c.loop-i.invariant
