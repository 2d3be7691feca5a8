-- The runs that demand 3 speaks of are not all silent: four accepted calls of a voice play a sound, and another patch
-- plays another. antt computes the whole run, tables, envelopes and sines included. Assumes nothing.
use mathlib.Core.Path.{◌≡◌, refl, sym, ap, ◌∙◌}
use mathlib.Core.Bool.{false, true≢false}
use mathlib.Core.List.{List, [], ◌∷◌}
use lib.IntN.{negsuc}
use lib.ListN.{get_or}
use lib.Ieee.{Float, neg, add, sub, mul, div, lt, eq, le, ne, is_nan, of_int, to_unsigned, to_signed, of_bits, to_bits}
use lib.Ieee.{fin}
use Rattle.numbers.specs.Extremes.{minimum, maximum, magnitude, clamped}
use Rattle.numbers.specs.F32.{decimal, minus_decimal}
use Rattle.numbers.specs.Words.{sum_signed, difference_signed}
use Rattle.utils.specs.Interpolate.{line_at, interpolated}
use Rattle.sine.specs.Sine.{steps_of, modulated, phase_line, sine_pm}
use Rattle.sine.specs.Table.{lut_sine}
use Rattle.sine.specs.Pairs.{pairs_of, sine_pairs}
use Rattle.units.specs.Ratio.{ratio_in, lowered, raised, ratio_of}
use Rattle.units.specs.Ratio as ratio
use Rattle.units.specs.Tables.{lut_pitch_ratio_high, lut_pitch_ratio_low}
use Rattle.dx_units_power.specs.Pow.{whole_below, mantissa_bits, pow2_fast}
use Rattle.dx_units_step.specs.Step.{step_for}
use Rattle.dx_units_inner.specs.Tables.{lut_coarse, lut_amp_mod_sensitivity, lut_cube_root}
use Rattle.dx_units_inner.specs.Units.{operator_level, pitch_envelope_level, operator_envelope_increment}
use Rattle.dx_units_inner.specs.Units.{pitch_envelope_increment, normalized_velocity_of, rate_scaling_of}
use Rattle.dx_units_inner.specs.Units.{amp_mod_sensitivity_of, side_scaling, keyboard_scaling_of, coarse_semitones}
use Rattle.dx_units_inner.specs.Units.{base_semitones, fine_factor, frequency_ratio}
use Rattle.dx_units_inner.specs.Units as conversions
use Rattle.patch.specs.Form.{scaling_with, modulations_with, envelope_number, scaling_number, operator_number}
use Rattle.patch.specs.Form.{lfo_number, operator_at, number_of}
use Rattle.patch.specs.Layout.{later, envelope_field, scaling_field, operator_field, lfo_field, field_of, stages}
use Rattle.patch.specs.Layout.{envelope_names, scaling_names, operator_names, lfo_names, letters, shared_names, layout}
use Rattle.patch.specs.Packed.{patch_fits}
use Rattle.patch.specs.Packed as packed
use Rattle.algorithms.specs.Chain.{last_operator, unmet, ends, grown, reused, chained, origin_from, modulation, known}
use Rattle.algorithms.specs.Chain.{renders, call_length}
use Rattle.algorithms.specs.Chain as chain
use Rattle.algorithms.specs.Opcode.{destination, adding, source, flagged, modulating}
use Rattle.algorithms.specs.Plan.{call_of, reading, ready, unready, extended, plan_from, counted, planned, same_call}
use Rattle.algorithms.specs.Plan.{same_calls, same_plan, is_plan, is_plan_of}
use Rattle.algorithms.specs.Table.{six, tabled, row_of, with_row, compiled}
use Rattle.envelope_inner.specs.Envelope.{initialised, all_stages, previous_level, start_of, line, segment, value_at}
use Rattle.envelope_inner.specs.Envelope.{current_value}
use Rattle.envelope_inner.specs.Envelope.{gated, stepped_phase, advanced}
use Rattle.envelope_inner.specs.Envelope as envelope
use Rattle.envelope_inner.specs.Set.{operator_set, pitch_set}
use Rattle.envelope_stages.specs.Stages.{jump, operator_stage_level, rising_increment, operator_stage_increment}
use Rattle.envelope_stages.specs.Stages.{operator_levels, operator_increments, pitch_stage_increment, pitch_levels}
use Rattle.envelope_stages.specs.Stages.{pitch_increments}
use Rattle.operator.specs.Chain.{entered, kept, through, all_moved, heard, next, ended, written}
use Rattle.operator.specs.Sample.{still, ramp_scale, feedback_scale_of, lane_of, operator_of, sampled, moved, fed}
use Rattle.operator.specs.Sample.{pushed, mixed}
use Rattle.voice_block.specs.Calls.{lane_at, lanes_at, chain_at, put_all, settled, source_of, called, called_up_to}
use Rattle.voice_block.specs.Calls.{setting, ran}
use Rattle.voice_block.specs.Calls as calls
use Rattle.voice_block.specs.Quarters.{split, joined}
use Rattle.voice_setup.specs.Setup.{headroom_of, operator_set_up, set_up_to}
use Rattle.voice_setup.specs.Setup as setup
use Rattle.voice_levels.specs.Levels.{timing_for, followed, note_frequency, frequency_by, brightness_of, scaling_of}
use Rattle.voice_levels.specs.Levels.{amplitude_of, leveled, leveled_to}
use Rattle.voice_levels.specs.Levels as levels
use Rattle.voice_note.specs.Note.{played_note}
use Rattle.patch_limits.specs.Ranges.{sample_rate_fits}
use Rattle.voice.specs.Answers.{patch_sound, state_fits, init_answer, row_compiled, set_patch_answer}
use Rattle.voice.specs.Voice.{voice_with, fresh_voice, with_patch}
use Rattle.voice_render.specs.Answers.{block_fits, parameters_fit, parameters_fit_for, render_answer}
use Rattle.voice_render.specs.Block.{played_by, note_on, struck, begun, entering, after, levels_for, played}
use Rattle.voice_render.specs.Block as block
use Rattle.voice_render.specs.Heard.{output}
use Rattle.voice_render.specs.Setup.{with_setup, set_up}
use Rattle.theorem_runs.specs.VoiceCalls.{answer_to}
use Rattle.theorem_runs.specs.Run.{step_of, run}
use Rattle.theorem_runs.specs.Example.{patch_of, two_samples, calls_for, run_for, numbers_of, last_output}
use Rattle.theorem_runs.specs.Good.{fresh}

-- all four calls are accepted; the first sample is 0, as amplitudes ramp up from 0, and the second goes by the patch's
-- level: its bits are 3f4516ad at 99 and 3eb6656f at 90
pub runs_sound :
    (numbers_of (run_for 99) ≡ 0 ∷ 0 ∷ 0 ∷ 0 ∷ [])
    × (last_output (run_for 99) ≡ decimal 0 0 ∷ fin false 12916397 (negsuc 23) ∷ [])
    × (last_output (run_for 90) ≡ decimal 0 0 ∷ fin false 11953519 (negsuc 24) ∷ [])
unfolding neg add sub mul div lt eq le ne is_nan of_int to_unsigned to_signed of_bits to_bits
    minimum maximum magnitude clamped
    decimal minus_decimal
    sum_signed difference_signed
    line_at interpolated
    steps_of modulated phase_line sine_pm
    lut_sine pairs_of sine_pairs
    ratio_in lowered raised ratio_of ratio.within
    lut_pitch_ratio_high lut_pitch_ratio_low
    whole_below mantissa_bits pow2_fast
    lut_coarse lut_amp_mod_sensitivity lut_cube_root
    operator_level pitch_envelope_level operator_envelope_increment pitch_envelope_increment normalized_velocity_of
    rate_scaling_of amp_mod_sensitivity_of side_scaling keyboard_scaling_of coarse_semitones base_semitones fine_factor
    frequency_ratio conversions.bent step_for
    scaling_with modulations_with envelope_number scaling_number operator_number lfo_number operator_at number_of
    later envelope_field scaling_field operator_field lfo_field field_of stages envelope_names scaling_names
    operator_names lfo_names letters shared_names layout
    patch_fits packed.within
    last_operator unmet ends grown reused chained origin_from modulation known renders call_length chain.rendered
    destination adding source flagged modulating
    call_of reading ready unready extended plan_from counted planned same_call same_calls same_plan is_plan is_plan_of
    six tabled row_of with_row compiled
    initialised previous_level start_of jump line segment value_at current_value gated stepped_phase advanced
    envelope.bent envelope.rendered
    operator_stage_level rising_increment operator_stage_increment operator_levels operator_increments operator_set
    pitch_stage_increment pitch_levels pitch_increments pitch_set
    entered kept through all_moved heard next ended written
    still ramp_scale feedback_scale_of lane_of operator_of moved fed pushed mixed sampled
    lane_at lanes_at chain_at put_all settled source_of called called_up_to setting ran calls.put_at
    split joined
    headroom_of operator_set_up set_up_to setup.put_at
    timing_for followed note_frequency frequency_by brightness_of scaling_of amplitude_of leveled leveled_to all_stages
    levels.put_at
    sample_rate_fits patch_sound state_fits block_fits parameters_fit parameters_fit_for init_answer row_compiled
    set_patch_answer
    render_answer played_note played_by note_on struck begun entering after levels_for played block.sounded
    voice_with fresh_voice with_patch with_setup set_up
    output
    answer_to step_of run
    patch_of two_samples calls_for run_for numbers_of last_output
    fresh
runs_sound = (refl, refl, refl)

abbrev second : List Float → Float
second l = get_or l 1 (decimal 0 0)

pub patches_are_heard : last_output (run_for 99) ≡ last_output (run_for 90) → ⊥
unfolding decimal eq
patches_are_heard e =
    true≢false
    (ap (λ (l : List Float). eq (second l) (fin false 12916397 (negsuc 23))) (sym runs_sound.1 ∙ e ∙ runs_sound.2))
