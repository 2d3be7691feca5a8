-- `voice_block::Operators::run_calls` meets its contract. Assumes nothing.
use Rattle.std.proofs.Common.{◌≡◌, ◌<◌, refl, add-one, arith}
use Rattle.std.proofs.lemmas.List.{get_or-take, length-take}
use Rattle.algorithms.specs.declared.Call.{Call}
use Rattle.voice_block.specs.Calls.{called_up_to}
use Rattle.voice_block.proofs.Operators.run_calls.Goals as goal

pub loop-call-init : goal.loop-call-init
unfolding called_up_to
loop-call-init c = refl

pub run_call-requires : goal.run_call-requires
run_call-requires c =
    let within : c.loop-call.call-index < c.args.plan.count = omega (arith, length-take {A = Call}) in (
      rw get_or-take (c.requires.0.calls c.loop-call.call-index within),
      record { small = c.requires.1.small; whole = omega (arith, c.requires.1.whole) },
      omega arith,
    )

pub loop-call-preserved : goal.loop-call-preserved
unfolding called_up_to
loop-call-preserved c =
    let within : c.loop-call.call-index < c.args.plan.count = omega (arith, length-take {A = Call}) in
    let one = rw get_or-take at c.run_call.ensures in
    rw (add-one c.loop-call.call-index, ← c.loop-call.invariant) one

pub returns : goal.returns
returns c =
    let few = c.requires.0.most in
    let all : c.loop-call.call-index ≡ c.args.plan.count = omega (arith, length-take {A = Call}) in
    rw all at c.loop-call.invariant
