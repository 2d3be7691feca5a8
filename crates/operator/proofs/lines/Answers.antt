-- `operator::lines` meets its contract. Assumes nothing.
use Rattle.std.proofs.Common.{◌≡◌, length, ap, arith}
use lib.Ieee.{Float}
use Rattle.numbers.specs.F32.{◌⊗◌}
use Rattle.operator.proofs.Parts.{running_first, running_turn}
use Rattle.operator.proofs.lines.Goals as goal

pub loop-k-init : goal.loop-k-init
loop-k-init c = λ f. running_first

pub loop-k-preserved : goal.loop-k-preserved
loop-k-preserved c = λ f.
    running_turn (c.loop-k.invariant f) c.loop-k-test.true c.requires.0 c.requires.1
    (ap (λ (x : Float). x ⊗ c.loop-k.lane.amplitude) c.line.ensures.0) c.advance-lane.ensures c.mix.ensures

pub returns : goal.returns
returns c = λ f.
    let all : c.loop-k.k ≡ length c.args.at.now = omega arith in
    rw all at (c.loop-k.invariant f).going
