-- `patch_limits::stages_fit` meets its contract. The tests are the table's, stage by stage. Assumes nothing.
use mathlib.Core.Path.{sym}
use Rattle.patch_limits.proofs.Within.{stages_fit_lem}
use Rattle.patch_limits.proofs.stages_fit.Goals as goal

pub returns : goal.returns
returns c = sym (stages_fit_lem _)
