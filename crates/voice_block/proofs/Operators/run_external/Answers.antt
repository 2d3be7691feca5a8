-- `voice_block::Operators::run_external` meets its contract: what is rendered into its part is what `called` says.
-- Assumes nothing.
use Rattle.operator.specs.Chain.Source.{external}
use Rattle.voice_block.specs.Calls.{setting_of}
use Rattle.voice_block.proofs.Quarters.{aside_at}
use Rattle.voice_block.proofs.Calls.{source_external, call_law}
use Rattle.voice_block.proofs.Operators.run_external.Goals as goal

pub returns : goal.returns
returns c =
    let copied = aside_at c.args.lent.now.samples c.args.call.input c.start-read.result c.args.block.now
    c.requires.0.input c.requires.1.whole c.start-read.ensures.0 c.copy_aside.new.aside c.copy_aside.ensures in
    call_law _ (setting_of c.args.lent.now) _ c.args.call _ 1 _ _ c.args.block.now _ (external _) _ _
    c.requires.0 c.requires.1 c.requires.2 c.start-from.ensures.0
    (source_external _ _ _ c.requires.3 c.requires.4 _ copied)
    c.render_external-left.auto.out c.take_out-chain.ensures c.render_external-left.ensures c.put_back.ensures
