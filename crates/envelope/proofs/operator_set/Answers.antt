-- `envelope::operator_set` meets its contract: levels that fit are on the chart. Assumes nothing.
use mathlib.Core.Path.{sym, ◌∙◌}
use Rattle.envelope.proofs.Levels.{levels_on_chart}
use Rattle.envelope.proofs.operator_set.Goals as goal

pub operator_set-requires : goal.operator_set-requires
operator_set-requires c = levels_on_chart _ _ _ (sym c.operator_fits.ensures ∙ c.if-not-operator_fits.false)
