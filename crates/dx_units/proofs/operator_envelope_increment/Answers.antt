-- `dx_units::operator_envelope_increment` meets its contract. Assumes nothing.
use Rattle.std.proofs.Common.{arith}
use Rattle.std.proofs.lemmas.Grind.{common_steps}
use Rattle.patch.specs.Layout.{envelope_field}
use Rattle.dx_units.specs.Answers.{operator_envelope_increment_answer}
use Rattle.dx_units.proofs.operator_envelope_increment.Goals as goal

pub returns : goal.returns
unfolding operator_envelope_increment_answer envelope_field
returns c = grind (arith, common_steps)

pub returns-in_err-check : goal.returns-in_err-check
unfolding operator_envelope_increment_answer envelope_field
returns-in_err-check c = grind (arith, common_steps)
