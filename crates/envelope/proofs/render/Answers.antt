-- `envelope::render` meets its contract: a step leads to a stage that there is. Assumes nothing.
use mathlib.Core.Path.{◌∙◌}
use Rattle.envelope_inner.proofs.Laws.{rendered_stage}
use Rattle.envelope.proofs.render.Goals as goal

pub current_value-requires : goal.current_value-requires
current_value-requires c =
    rw (c.move_to-rendered.ensures ∙ c.render-q.ensures) (rendered_stage _ _ _ _ _ _ c.in_ok-check.ensures.stage)
