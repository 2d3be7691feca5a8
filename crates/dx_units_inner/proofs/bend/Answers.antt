-- `dx_units_inner::bend` meets its contract. Assumes nothing.
use native.Mathlib.Omega.{arith}
use lib.Ieee.{of_bits}
use Rattle.numbers.specs.F32.{decimal}
use Rattle.dx_units_inner.proofs.Conversions.{bent_cube, bent_not}
use Rattle.dx_units_inner.proofs.bend.Goals as goal

pub returns-in-1 : goal.returns-in-1
unfolding decimal of_bits
returns-in-1 c = bent_cube c.args.t c.f32_min-u.result c.args.curve c.f32_min-u.ensures (omega arith) (omega arith)

pub returns-in_default : goal.returns-in_default
returns-in_default c = bent_not c.args.t c.args.curve (omega arith) (omega arith)

pub returns-in_default-2 : goal.returns-in_default-2
returns-in_default-2 c = bent_not c.args.t c.args.curve (omega arith) (omega arith)
