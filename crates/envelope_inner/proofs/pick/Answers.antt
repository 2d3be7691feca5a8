-- `envelope_inner::pick` meets its contract: an index of at most 3 is one of the four. Assumes nothing.
use mathlib.Core.Path.{◌≡◌}
use native.Mathlib.Omega.{arith}
use Rattle.envelope_inner.proofs.pick.Goals as goal

pub returns-then-i-eq0 : goal.returns-then-i-eq0
returns-then-i-eq0 c = rw c.if-i-eq0.true

pub returns-then-i-eq1 : goal.returns-then-i-eq1
returns-then-i-eq1 c = rw c.if-i-eq1.true

pub returns-then-i-eq2 : goal.returns-then-i-eq2
returns-then-i-eq2 c = rw c.if-i-eq2.true

pub returns : goal.returns
returns c =
    let last : c.args.i ≡ 3 = omega arith in rw last
