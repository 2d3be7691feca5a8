-- `envelope_inner::reach` meets its contract. Assumes nothing.
use mathlib.Core.Path.{sym, ◌∙◌}
use native.Mathlib.Omega.{arith}
use lib.Ieee.{round, of_bits}
use Rattle.numbers.specs.F32.{decimal}
use Rattle.envelope_inner.proofs.Walks.{walk_here, walk_on, walk_done}
use Rattle.envelope_inner.proofs.reach.Goals as goal

pub loop-stage-preserved : goal.loop-stage-preserved
unfolding decimal round of_bits
loop-stage-preserved c =
    let l = c.loop-stage in
    sym (walk_on c.args.increments l.stage l.t c.loop-stage-test.true (omega arith) c.if-t-duration.false) ∙ l.invariant

pub returns : goal.returns
returns c =
    let l = c.loop-stage in sym (walk_done c.args.increments l.stage l.t (omega arith) (omega arith)) ∙ l.invariant

pub returns-then-t-duration : goal.returns-then-t-duration
unfolding decimal round of_bits
returns-then-t-duration c =
    let l = c.loop-stage in
    sym (walk_here c.args.increments l.stage l.t c.loop-stage-test.true (omega arith) c.if-t-duration.true)
    ∙ l.invariant
