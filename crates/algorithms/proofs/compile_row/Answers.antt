-- `algorithms::compile_row` meets its contract. Assumes nothing.
use mathlib.Core.Path.{◌≡◌, sym, ◌∙◌}
use native.Mathlib.Omega.{arith}
use lib.ListN.{length}
use lib.Seq.{length-take-le}
use Rattle.std.proofs.Common.{rules}
use Rattle.algorithms.specs.Plan.{planned}
use Rattle.algorithms.proofs.Tables.{counted_few}
use Rattle.algorithms.proofs.compile_row.Goals as goal

pub slice_bounds-row-end : goal.slice_bounds-row-end
slice_bounds-row-end c =
    let l : length c.args.row ≡ 6 = search rules in
    omega (arith, counted_few c.args.operators (sym c.is_counted.ensures ∙ c.if-not-is_counted.false))

pub slice_bounds-compile_calls-end : goal.slice_bounds-compile_calls-end
slice_bounds-compile_calls-end c =
    let l : length c.args.row ≡ 6 = search rules in
    let k = counted_few c.args.operators (sym c.is_counted.ensures ∙ c.if-not-is_counted.false) in
    sym (length-take-le c.args.operators c.args.row (omega arith))

pub returns : goal.returns
unfolding planned
returns c =
    let l : length c.args.row ≡ 6 = search rules in
    let k = counted_few c.args.operators (sym c.is_counted.ensures ∙ c.if-not-is_counted.false) in
    rw (sym c.is_counted.ensures ∙ c.if-not-is_counted.false)
    (rw (length-take-le c.args.operators c.args.row (omega arith)) at c.compile_calls.ensures)
