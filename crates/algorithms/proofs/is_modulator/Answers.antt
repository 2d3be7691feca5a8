-- `algorithms::is_modulator` meets its contract. Assumes nothing.
use Rattle.algorithms.proofs.Tables.{found_few}
use Rattle.algorithms.proofs.is_modulator.Goals as goal
use native.Mathlib.Omega.{arith}

pub bounds-bytes-operator : goal.bounds-bytes-operator
bounds-bytes-operator c = omega (
  arith,
  found_few c.args.operators c.args.table.now c.args.row _ _
      c.in_ok-bytes.ensures,
)
