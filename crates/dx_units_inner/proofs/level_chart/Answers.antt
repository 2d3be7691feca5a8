-- `dx_units_inner::level_chart` meets its contract. Assumes nothing.
use mathlib.Core.Path.{refl}
use Rattle.dx_units_inner.specs.Tables.{level_chart}
use Rattle.dx_units_inner.proofs.level_chart.Goals as goal

pub returns : goal.returns
unfolding level_chart
returns c = refl
