-- `algorithms::row_of` meets its contract. Assumes nothing.
use mathlib.Core.Path.{sym, ◌∙◌}
use Rattle.algorithms.proofs.Tables.{counted_some}
use Rattle.algorithms.proofs.row_of.Goals as goal

pub nonzero_rem-table : goal.nonzero_rem-table
nonzero_rem-table c = counted_some _ (sym c.is_counted.ensures ∙ c.if-not-is_counted.false)

pub nonzero_div-rows : goal.nonzero_div-rows
nonzero_div-rows c = counted_some _ (sym c.is_counted.ensures ∙ c.if-not-is_counted.false)
