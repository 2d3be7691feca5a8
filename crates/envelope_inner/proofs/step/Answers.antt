-- `envelope_inner::step` meets its contract. Assumes nothing.
use borrow.Author.Tests.{eq-eqb, ne_eqb}
use Rattle.envelope_inner.specs.Envelope.{stepped_phase}
use Rattle.envelope_inner.proofs.step.Goals as goal

pub returns-then-stage-eq3 : goal.returns-then-stage-eq3
unfolding stepped_phase
returns-then-stage-eq3 c = λ e h. simp (h, eq-eqb _ _ c.if-stage-eq3.true, c.pick.ensures)

pub returns : goal.returns
unfolding stepped_phase
returns c = λ e h. simp (h, ne_eqb _ _ c.if-stage-eq3.false, c.pick.ensures)
