-- `voice_block::Operators::put_back` meets its contract. Assumes nothing.
use Rattle.std.proofs.Common.{ℕ, ap, add-zero, arith}
use Rattle.voice_block.specs.Calls.{put_all, settled}
use Rattle.voice_block.specs.declared.Operators.{Operators}
use Rattle.voice_block.proofs.State.{back_turn, back_done}
use Rattle.voice_block.proofs.Operators.put_back.Goals as goal

pub loop-k-init : goal.loop-k-init
loop-k-init g c = ap (λ (k : ℕ). put_all c.args.self.now k c.args.chain.lanes) (add-zero c.args.first)

pub loop-k-preserved : goal.loop-k-preserved
loop-k-preserved g c = back_turn _ _ _ _ _ _ _ _ c.loop-k.invariant (omega arith) c.leave.ensures (omega arith)

pub returns : goal.returns
unfolding settled
returns g c =
    ap (λ (v : Operators). record { operator = v.operator; feedback_state = c.args.chain.feedback })
    (back_done _ _ _ c.loop-k.k c.args.chain.lanes c.loop-k.invariant (omega arith))
