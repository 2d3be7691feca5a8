-- `algorithms::is_plan_of` meets its contract. Assumes nothing.
use mathlib.Core.Path.{◌≡◌, sym, refl, ◌∙◌}
use native.Mathlib.Omega.{arith}
use lib.ListN.{length}
use lib.Seq.{length-take-le}
use Rattle.std.proofs.Common.{rules}
use Rattle.algorithms.specs.Plan.{planned, is_plan, is_plan_of}
use Rattle.algorithms.proofs.Tables.{counted_few}
use Rattle.algorithms.proofs.is_plan_of.Goals as goal

pub slice_bounds-row-end : goal.slice_bounds-row-end
slice_bounds-row-end c =
    let l : length c.args.row ≡ 6 = search rules in
    omega (arith, counted_few c.args.operators (sym c.is_counted.ensures ∙ c.if-is_counted.true))

pub slice_bounds-is_compiled_to-end : goal.slice_bounds-is_compiled_to-end
slice_bounds-is_compiled_to-end c =
    let l : length c.args.row ≡ 6 = search rules in
    let k = counted_few c.args.operators (sym c.is_counted.ensures ∙ c.if-is_counted.true) in
    sym (length-take-le c.args.operators c.args.row (omega arith))

pub returns-then-is_counted : goal.returns-then-is_counted
unfolding planned is_plan_of
returns-then-is_counted c =
    let l : length c.args.row ≡ 6 = search rules in
    let k = counted_few c.args.operators (sym c.is_counted.ensures ∙ c.if-is_counted.true) in
    rw (sym c.is_counted.ensures ∙ c.if-is_counted.true)
    (rw (length-take-le c.args.operators c.args.row (omega arith)) at c.is_compiled_to.ensures)

pub returns-else-is_counted : goal.returns-else-is_counted
unfolding planned is_plan is_plan_of
returns-else-is_counted c = c.if-is_counted.false ∙ rw (sym c.is_counted.ensures ∙ c.if-is_counted.false) refl
