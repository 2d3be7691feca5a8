-- `envelope_stages::operator_stage_level` meets its contract. Assumes nothing.
use mathlib.Core.Path.{sym}
use borrow.Author.Tests.{lt-ltb, le-ltb}
use lib.Ieee.{round, of_bits}
use Rattle.numbers.specs.F32.{decimal}
use Rattle.envelope_stages.specs.Stages.{operator_stage_level}
use Rattle.envelope_stages.proofs.operator_stage_level.Goals as goal

pub returns-then-scaled-lt134 : goal.returns-then-scaled-lt134
unfolding operator_stage_level decimal round of_bits
returns-then-scaled-lt134 c = simp (sym c.operator_level.ensures, lt-ltb _ _ c.if-scaled-lt134.true)

pub returns : goal.returns
unfolding operator_stage_level decimal round of_bits
returns c = simp (sym c.operator_level.ensures, le-ltb _ _ c.if-scaled-lt134.false, c.u32_as_f32.ensures)
