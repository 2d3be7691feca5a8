-- `plan_text::push_calls` meets its contract. Assumes nothing.
use mathlib.Core.Path.{refl, sym}
use mathlib.Core.List.{append-nil}
use native.Mathlib.Omega.{arith}
use lib.ListN.{take}
use lib.Seq.{length-take-le}
use Rattle.plan_text.specs.Text.{calls_text}
use Rattle.plan_text.proofs.Pieces.{longer, call_at, call_more, calls_size}
use Rattle.plan_text.proofs.push_calls.Goals as goal

pub loop-call-init : goal.loop-call-init
unfolding calls_text
loop-call-init c = sym (append-nil _)

pub push_call-requires : goal.push_call-requires
push_call-requires c =
    let n = longer c.args.text.now.bytes _ c.loop-call.invariant in
    omega (
      arith,
      calls_size (take c.loop-call.call-index c.args.calls.now),
      length-take-le c.loop-call.call-index
          c.args.calls.now (omega arith),
    )

pub loop-call-preserved : goal.loop-call-preserved
loop-call-preserved c = call_more _ _ _ c.loop-call-test.true c.loop-call.invariant (call_at c.loop-call.text.bytes
    c.args.calls.now c.loop-call.call-index refl c.push_call.ensures)
