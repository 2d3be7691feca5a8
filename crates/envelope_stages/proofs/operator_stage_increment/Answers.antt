-- `envelope_stages::operator_stage_increment` meets its contract. Assumes nothing.
use lib.Ieee.{round, of_bits}
use Rattle.numbers.specs.F32.{decimal}
use Rattle.envelope_stages.specs.Stages.{operator_stage_increment}
use mathlib.Core.Path.{sym}
use Rattle.envelope_stages.proofs.operator_stage_increment.Goals as goal

pub returns-then-fast : goal.returns-then-fast
unfolding operator_stage_increment decimal round of_bits
returns-then-fast c = simp (sym c.operator_envelope_increment-increment.ensures, c.if-from-to.true, c.if-fast.true)

pub returns-then-from-to : goal.returns-then-from-to
unfolding operator_stage_increment decimal round of_bits
returns-then-from-to c = simp (sym c.operator_envelope_increment-increment.ensures, c.if-from-to.true, c.if-fast.false)

pub returns-then-from-to-2 : goal.returns-then-from-to-2
unfolding operator_stage_increment decimal round of_bits
returns-then-from-to-2 c =
    simp (
      sym c.operator_envelope_increment-increment.ensures,
      c.if-from-to.false,
      c.if-from-to-2.true,
    ) c.rising_increment.ensures

pub returns : goal.returns
unfolding operator_stage_increment decimal round of_bits
returns c = simp (sym c.operator_envelope_increment-increment.ensures, c.if-from-to.false, c.if-from-to-2.false)
