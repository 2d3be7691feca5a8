-- `single::turned` meets its contract: the number at each place is taken from its own. Assumes nothing.
use native.Mathlib.Omega.{arith}
use Rattle.single.proofs.Turns.{turned_all}
use Rattle.single.proofs.turned.Goals as goal

pub returns : goal.returns
returns c =
    turned_all c.args.by c.args.s.now c.loop-i.number-items (omega arith)
    (λ k h. c.loop-i.invariant k (omega arith))
