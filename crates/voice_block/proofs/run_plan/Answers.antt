-- `voice_block::run_plan` meets its contract: the calls over the operators are the plan. Assumes nothing.
use Rattle.std.proofs.Common.{refl}
use Rattle.voice_block.proofs.Calls.{settings, ran_law}
use Rattle.voice_block.proofs.run_plan.Goals as goal

pub returns-then-samples-le64 : goal.returns-then-samples-le64
returns-then-samples-le64 c =
    ran_law _ _ _ _ _ c.args.state _ _ _ _ _ refl
    (settings _ _ _ _ _ _ c.ramp_scale.ensures c.feedback_scale.ensures) c.requires.2
    c.run_calls.auto.block c.run_calls.ensures

pub returns : goal.returns
returns c =
    ran_law _ _ _ _ _ c.args.state _ _ _ _ _ refl
    (settings _ _ _ _ _ _ c.ramp_scale.ensures c.feedback_scale.ensures) c.requires.2
    c.run_calls-2.auto.block c.run_calls-2.ensures
