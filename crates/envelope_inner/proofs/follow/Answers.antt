-- `envelope_inner::follow` meets its contract. Assumes nothing.
use mathlib.Core.Path.{sym, ap, ◌∙◌}
use mathlib.Core.List.{List}
use lib.Ieee.{Float, round, of_bits}
use Rattle.numbers.specs.F32.{decimal}
use Rattle.envelope_inner.specs.Envelope.{level_value}
use Rattle.envelope_inner.proofs.Positions.{gate_jumps, gate_stays}
use Rattle.envelope_inner.proofs.follow.Goals as goal

pub returns-then-gate-q : goal.returns-then-gate-q
unfolding decimal round of_bits
returns-then-gate-q c =
    let a = c.args in
    let q = a.q in
    λ e h. gate_jumps a.reshape a.gate e q c.if-gate-q.true c.started.ensures
    (c.value_at-start.ensures ∙ ap (λ (l : List Float). level_value a.reshape l q.stage q.phase q.start)
    (sym h))

pub returns : goal.returns
returns c = let a = c.args in λ e h. gate_stays a.reshape a.gate e a.q c.if-gate-q.false
