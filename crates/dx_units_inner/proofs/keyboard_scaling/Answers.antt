-- `dx_units_inner::keyboard_scaling` meets its contract. Assumes nothing.
use lib.Ieee.{of_bits}
use Rattle.numbers.specs.F32.{decimal}
use Rattle.dx_units_inner.proofs.Conversions.{on_right, on_left}
use Rattle.dx_units_inner.proofs.keyboard_scaling.Goals as goal

pub returns-then-x : goal.returns-then-x
unfolding decimal of_bits
returns-then-x c =
    on_right c.args.note c.args.left_depth c.args.right_depth c.args.left_curve c.args.right_curve
    c.args.break_point
    c.if-x.true c.side_scaling.ensures

pub returns-else-x : goal.returns-else-x
unfolding decimal of_bits
returns-else-x c =
    on_left c.args.note c.args.left_depth c.args.right_depth c.args.left_curve c.args.right_curve
    c.args.break_point
    c.if-x.false c.side_scaling-else-x.ensures
