-- `voice_block::Operators::run_none` meets its contract: what is rendered into its part is what `called` says.
-- Assumes nothing.
use Rattle.operator.specs.Chain.Source.{none}
use Rattle.voice_block.specs.Calls.{setting_of}
use Rattle.voice_block.proofs.Calls.{source_none, call_law}
use Rattle.voice_block.proofs.Operators.run_none.Goals as goal

pub returns : goal.returns
returns c =
    call_law _ (setting_of c.args.lent.now) _ c.args.call _ 1 _ _ c.args.block.now _ none _ _ c.requires.0 c.requires.1
    c.requires.3 c.start-from.ensures.0 (source_none _ _ _ c.requires.2) c.render_none-left.auto.out
    c.take_out-chain.ensures c.render_none-left.ensures c.put_back.ensures
