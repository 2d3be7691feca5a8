-- Every row of the worked cases holds: antt computes each. Assumes nothing.
use mathlib.Core.Path.{refl}
use lib.Ieee.{of_int, div, mul, lt, is_nan, to_unsigned}
use Rattle.numbers.specs.F32.{decimal, minus_decimal}
use Rattle.numbers.specs.Extremes.{minimum}
use Rattle.dx_units.specs.Answers.{operator_level_answer, operator_envelope_increment_answer}
use Rattle.dx_units_inner.specs.Units.{operator_level, operator_envelope_increment}
use Rattle.dx_units_step.specs.Step.{step_for, mark_for}
use Rattle.patch.specs.Layout.{envelope_field, operator_field}
use Rattle.algorithms.specs.Opcode.{destination, adding, source, flagged}
use Rattle.algorithms.specs.Chain.{last_operator, unmet, ends, grown, reused, chained, origin_from, modulation, known}
use Rattle.algorithms.specs.Chain.{renders, call_length, rendered}
use Rattle.algorithms.specs.Plan.{call_of, reading, ready, unready, extended, plan_from, counted, planned}
use Rattle.algorithms.specs.Table.{six}
use Rattle.operator.specs.Sample.{moved}
use Rattle.plan_text.specs.Text.{digit, hex_digit, bytes_text, row_text, count_text, source_text, way_text, call_text}
use Rattle.plan_text.specs.Text.{calls_text, planned_text, plan_text}
use Rattle.refusals.specs.Refusals.{letters}
use Rattle.cases_proved.specs.Cases.{text_of, AllHold, cases}

pub cases_hold : AllHold cases
unfolding operator_level_answer operator_level operator_envelope_increment_answer operator_envelope_increment
    step_for mark_for minimum envelope_field operator_field decimal minus_decimal of_int div mul lt is_nan to_unsigned
    destination adding source flagged last_operator unmet ends grown reused chained origin_from modulation known renders
    call_length rendered
    call_of reading ready unready extended plan_from counted planned six moved
    digit hex_digit bytes_text row_text count_text source_text way_text call_text calls_text planned_text plan_text
    letters text_of
cases_hold = (
  refl,
  (
    refl,
    (
      refl,
      (
        refl,
        (
          refl,
          (
            refl,
            (
              refl,
              (
                refl,
                (
                  refl,
                  (
                    refl,
                    (
                      refl,
                      (
                        λ a i. refl,
                        ((refl, refl), (refl, (refl, tt))),
                      ),
                    ),
                  ),
                ),
              ),
            ),
          ),
        ),
      ),
    ),
  ),
)
