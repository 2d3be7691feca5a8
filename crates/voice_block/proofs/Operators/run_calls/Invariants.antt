-- `voice_block::Operators::run_calls` meets its contract: the desk is what the first calls make of the one at entry.
-- Assumes nothing.
use Rattle.std.proofs.Common.{◌≡◌}
use Rattle.voice_block.specs.Calls.{setting_of, desk, called_up_to}
use Rattle.voice_block.proofs.Operators.run_calls.Given as goal

abbrev pub invariant-loop-call : goal.invariant-loop-call
invariant-loop-call l =
    desk l.lent.samples l.self l.block
    ≡ called_up_to l.lent.pairs.now (setting_of l.lent) l.fn.plan.calls l.call-index
    (desk l.lent.samples l.initial.self l.initial.block)
