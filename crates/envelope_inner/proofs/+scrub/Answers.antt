-- `envelope_inner::scrub` meets its contract, by the tests that led to each return. Assumes nothing.
use Rattle.std.proofs.Common.{sym, ◌∙◌}
use lib.Ieee.{round, of_bits}
use Rattle.numbers.specs.F32.{decimal}
use Rattle.envelope_inner.specs.Scrub.{released}
use Rattle.envelope_inner.proofs.Scrubs.{scrubbed_last, scrubbed_held, scrubbed_released}
use Rattle.envelope_inner.proofs.+scrub.Goals as goal

pub returns-then-calls-eq0 : goal.returns-then-calls-eq0
returns-then-calls-eq0 t c =
    let a = c.args in
    c.hold.ensures ∙ sym (scrubbed_last a.reshape a.envelope a.calls a.t a.gate_duration c.if-calls-eq0.true)

pub returns-then-phase : goal.returns-then-phase
unfolding released decimal round of_bits
returns-then-phase t c =
    let a = c.args in
    rw
    (scrubbed_released a.reshape a.envelope a.calls a.t a.gate_duration c.if-calls-eq0.false c.if-t-gate_duration.true)
    (simp c.if-phase.true)

pub returns-then-t-gate_duration : goal.returns-then-t-gate_duration
unfolding released decimal round of_bits
returns-then-t-gate_duration t c =
    let a = c.args in
    rw
    (scrubbed_released a.reshape a.envelope a.calls a.t a.gate_duration c.if-calls-eq0.false c.if-t-gate_duration.true)
    (simp (c.if-phase.false, sym c.scrub-start.ensures) c.value.ensures)

pub returns : goal.returns
returns t c =
    let a = c.args in
    c.hold-2.ensures
    ∙ sym (scrubbed_held a.reshape a.envelope a.calls a.t a.gate_duration c.if-t-gate_duration.false)
