-- `numbers::f32_abs` meets its contract. Assumes nothing.
use Rattle.std.proofs.Common.{◌∙◌}
use Rattle.numbers.proofs.Casts.{without_sign}
use Rattle.numbers.proofs.f32_abs.Goals as goal

pub returns : goal.returns
returns c = c.abs.ensures.value ∙ without_sign c.args.x
