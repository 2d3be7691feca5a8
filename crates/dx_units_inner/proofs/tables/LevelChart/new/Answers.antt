-- `dx_units_inner::tables::LevelChart::new` makes the chart: the table is the chart's numbers. Assumes nothing.
use Rattle.std.proofs.Common.{refl}
use Rattle.dx_units_inner.specs.Tables.{level_chart}
use Rattle.dx_units_inner.proofs.tables.LevelChart.new.Goals as goal

pub invariant_of-result : goal.invariant_of-result
unfolding level_chart
invariant_of-result c = record { printed = refl }
