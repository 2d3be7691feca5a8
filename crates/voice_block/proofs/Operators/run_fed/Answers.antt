-- `voice_block::Operators::run_fed` meets its contract: what is rendered into its part is what `called` says.
-- Assumes nothing.
use Rattle.operator.specs.Chain.Source.{feedback}
use Rattle.voice_block.specs.Calls.{setting_of}
use Rattle.voice_block.proofs.Calls.{source_feedback, call_law}
use Rattle.voice_block.proofs.Operators.run_fed.Goals as goal

pub returns : goal.returns
returns g c =
    call_law _ (setting_of c.args.lent.now) _ c.args.call _ g.row.N _ _ c.args.block.now _ (feedback _) _ _
    c.requires.0 c.requires.1 c.requires.3 c.start-from.ensures.0 (source_feedback _ _ _ c.requires.2)
    c.render_feedback-left.auto.out c.take_out-chain.ensures c.render_feedback-left.ensures c.put_back.ensures
