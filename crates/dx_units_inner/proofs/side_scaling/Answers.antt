-- `dx_units_inner::side_scaling` meets its contract. Assumes nothing.
use native.Mathlib.Omega.{arith}
use lib.Ieee.{of_bits}
use Rattle.numbers.specs.F32.{decimal}
use Rattle.dx_units_inner.proofs.Conversions.{side_down, side_up}
use Rattle.dx_units_inner.proofs.side_scaling.Goals as goal
use Rattle.dx_units_inner.proofs.side_scaling.Goals.{in-0, in_default}

pub returns : goal.returns
unfolding decimal of_bits
returns c =
    let a = c.args in
    elim c.if-curve-lt2.branch [
      | in-0 w ↦ rw w.change-is (side_down a.x a.curve a.depth c.f32_abs.ensures c.bend-t.ensures (omega arith))
      | in_default w ↦ rw w.change-is (side_up a.x a.curve a.depth c.f32_abs.ensures c.bend-t.ensures (omega arith))
    ]
