-- Every public entry's answer is settled: an instance for each, over the clauses of its contract. Assumes nothing.
use mathlib.Core.Path.{◌≡◌, refl, sym, ◌∙◌, ap}
use mathlib.Core.List.{List}
use Prim.Native.Nat.{ℕ}
use seplogic.Ra.Ura.{Ura}
use base.Logic.{SProp, ent}
use prog.Memory.{Memory}
use prog.Routine.{Routine}
use types.Logic.{Logic}
use contract.Monad.{Fun, fact, fact_i, fact_use, conj, conj_l, conj_r}
use denote.Ref.{Bor}
use Rattle.std.specs.Prelude.{Result}
use Rattle.std.specs.Result.{result_map_both}
use Rattle.refusals.specs.declared.Refusal.{Refusal}
use Rattle.bank.specs.Bank.{Handed}
use Rattle.dx_units_power.specs.contracts.pow_2_fast as pow-2-fast
use Rattle.dx_units_step.specs.contracts.frequency_step as frequency-step
use Rattle.dx_units_inner.specs.contracts.level_chart as level-chart
use Rattle.dx_units.specs.contracts.operator_level as operator-level
use Rattle.dx_units.specs.contracts.pitch_envelope_level as pitch-envelope-level
use Rattle.dx_units.specs.contracts.operator_envelope_increment as operator-envelope-increment
use Rattle.dx_units.specs.contracts.pitch_envelope_increment as pitch-envelope-increment
use Rattle.dx_units.specs.contracts.lfo_frequency as lfo-frequency
use Rattle.dx_units.specs.contracts.lfo_delay as lfo-delay
use Rattle.dx_units.specs.contracts.normalize_velocity as normalize-velocity
use Rattle.dx_units.specs.contracts.rate_scaling as rate-scaling
use Rattle.dx_units.specs.contracts.amp_mod_sensitivity as amp-mod-sensitivity
use Rattle.dx_units.specs.contracts.pitch_mod_sensitivity as pitch-mod-sensitivity
use Rattle.dx_units.specs.contracts.keyboard_scaling as keyboard-scaling
use Rattle.dx_units.specs.contracts.frequency_ratio as frequency-ratio
use Rattle.patch.specs.contracts.unpack as patch-unpack
use Rattle.patch_limits.specs.contracts.check as patch-limits-check
use Rattle.patch_packer.specs.contracts.pack as patch-packer-pack
use Rattle.dump.specs.contracts.checksum as dump-checksum
use Rattle.bank.specs.contracts.validate as bank-validate
use Rattle.bank.specs.contracts.check as bank-check
use Rattle.bank.specs.contracts.channel as bank_channel
use Rattle.bank.specs.contracts.Reader.check as bank-reader-check
use Rattle.bank.specs.contracts.Reader.channel as bank-reader-channel
use Rattle.bank_pieces.specs.contracts.open as pieces-open
use Rattle.bank_pieces.specs.contracts.end as Pieces-end
use Rattle.bank_pieces.specs.contracts.take as pieces-take
use Rattle.bank_pieces.specs.Pieces.{Answered as PieceAnswered}
use Rattle.single.specs.contracts.read as single-read
use Rattle.single.specs.contracts.write as single-write
use Rattle.single.specs.contracts.from_packed as single-from-packed
use Rattle.single.specs.contracts.to_packed as single-to-packed
use Rattle.algorithms.specs.contracts.compile as algorithms-compile
use Rattle.algorithms.specs.contracts.compile_row as algorithms-compile-row
use Rattle.algorithms.specs.contracts.is_modulator as algorithms-is-modulator
use Rattle.envelope_inner.specs.contracts.init as envelope-init
use Rattle.envelope.specs.contracts.set as envelope-set
use Rattle.envelope.specs.contracts.operator_set as envelope-operator-set
use Rattle.envelope.specs.contracts.pitch_set as envelope-pitch-set
use Rattle.envelope.specs.contracts.render as envelope-render
use Rattle.envelope.specs.contracts.render_at_sample as envelope-render-at-sample
use Rattle.envelope.specs.contracts.current_value as envelope-current-value
use Rattle.envelope.specs.contracts.value as envelope-value
use Rattle.lfo.specs.contracts.init as lfo-init
use Rattle.lfo.specs.contracts.set as lfo-set
use Rattle.lfo.specs.contracts.reset as lfo-reset
use Rattle.lfo.specs.contracts.step as lfo-step
use Rattle.lfo.specs.contracts.step_with as lfo-step-with
use Rattle.lfo.specs.contracts.scrub as lfo-scrub
use Rattle.lfo.specs.contracts.scrub_with as lfo-scrub-with
use Rattle.lfo.specs.contracts.value as lfo-value
use Rattle.lfo.specs.contracts.value_with as lfo-value-with
use Rattle.lfo.specs.contracts.delay_ramp as lfo-delay-ramp
use Rattle.lfo.specs.contracts.pitch_mod as lfo-pitch-mod
use Rattle.lfo.specs.contracts.amp_mod as lfo-amp-mod
use Rattle.voice.specs.contracts.init as voice-init
use Rattle.voice.specs.contracts.set_patch as voice-set-patch
use Rattle.voice.specs.contracts.take_patch as voice-take-patch
use Rattle.voice.specs.contracts.patch as voice-patch
use Rattle.voice.specs.contracts.set_transposing as voice-set-transposing
use Rattle.voice_render.specs.contracts.setup as voice-setup
use Rattle.identity.specs.contracts.identify as identity-identify
use Rattle.bank.specs.contracts.part as bank-part
use Rattle.bank.specs.contracts.read as bank-read
use Rattle.bank.specs.contracts.Reader.new as bank-reader-new
use Rattle.bank.specs.contracts.Reader.moved as bank-reader-moved
use Rattle.bank.specs.contracts.Reader.part as bank-reader-part
use Rattle.plan_text.specs.contracts.print as plan-text-print
use Rattle.refusals.specs.contracts.text as refusals-text
use Rattle.voice_render.specs.Answers.{Answered}
use Rattle.voice_render.specs.contracts.render as voice-render
use Rattle.voice_render.specs.contracts.render_with as voice-render-with
use Rattle.theorem_settled.specs.Settled.{Common, Settled}

-- of two facts together a third
both : {M : Type 1} (𝓤 : Ura M) (φ ψ χ : Type 0) → (φ → ψ → χ)
    → ent 𝓤 (conj 𝓤 (fact 𝓤 φ) (fact 𝓤 ψ)) (fact 𝓤 χ)
both 𝓤 φ ψ χ f =
    fact_use 𝓤 φ (conj_l 𝓤 (fact 𝓤 φ) (fact 𝓤 ψ)) (λ p.
    fact_use 𝓤 ψ (conj_r 𝓤 (fact 𝓤 φ) (fact 𝓤 ψ)) (λ q. fact_i 𝓤 χ (conj 𝓤 (fact 𝓤 φ) (fact 𝓤 ψ)) (f p q)))

-- a part's bytes and place, or why there is none
abbrev bytes_in : Result (Bor (List ℕ)) Refusal → Result (List ℕ) Refusal
bytes_in r = result_map_both (λ p. p.now) (λ e. e) r

abbrev place_in : Result (Bor (List ℕ)) Refusal → Result (ℕ × ℕ) Refusal
place_in r = result_map_both (λ p. p.ref_ptr) (λ e. e) r

-- a promise of a part
same_part : {M : Type 1} (𝓤 : Ura M) (dump : Bor (List ℕ)) (slot : ℕ) (z y : Result (Bor (List ℕ)) Refusal)
    → ent 𝓤 (conj 𝓤 (fact 𝓤 (Handed dump slot z)) (fact 𝓤 (Handed dump slot y)))
    (fact 𝓤 ((bytes_in z ≡ bytes_in y) × (place_in z ≡ place_in y)))
same_part 𝓤 dump slot z y =
    both 𝓤 (Handed dump slot z) (Handed dump slot y) ((bytes_in z ≡ bytes_in y) × (place_in z ≡ place_in y))
    (λ p q. (p.bytes ∙ sym q.bytes, p.place ∙ sym q.place))

-- a promise that is an equation, of a function that is lent nothing for writing
equal : {M : Type 1} (𝓤 : Ura M) {X W : Type 0} (answer z y : X) {ws vs : W} → ws ≡ vs
    → ent 𝓤 (conj 𝓤 (fact 𝓤 (z ≡ answer)) (fact 𝓤 (y ≡ answer))) (fact 𝓤 ((z ≡ y) × (ws ≡ vs)))
equal 𝓤 answer z y {ws} {vs} e = both 𝓤 (z ≡ answer) (y ≡ answer) ((z ≡ y) × (ws ≡ vs)) (λ p q. (p ∙ sym q, e))

module _ {M : Type 1} {𝓤 : Ura M} (𝓛 : Logic 𝓤) (mem : Memory → SProp 𝓤) (run : Routine → Fun 𝓤) where
  -- ---- the conversions

  pub pow_2_fast_settled : Settled 𝓤 pow-2-fast.ended (pow-2-fast.clauses 𝓛 mem run)
  pow_2_fast_settled κs a g z y ws vs = equal 𝓤 _ z y refl

  pub frequency_step_settled : Settled 𝓤 frequency-step.ended (frequency-step.clauses 𝓛 mem run)
  frequency_step_settled κs a g z y ws vs = equal 𝓤 _ z y refl

  pub level_chart_settled : Settled 𝓤 level-chart.ended (level-chart.clauses 𝓛 mem run)
  level_chart_settled κs a g z y ws vs = equal 𝓤 _ z y refl

  pub operator_level_settled : Settled 𝓤 operator-level.ended (operator-level.clauses 𝓛 mem run)
  operator_level_settled κs a g z y ws vs = equal 𝓤 _ z y refl

  pub pitch_envelope_level_settled : Settled 𝓤 pitch-envelope-level.ended (pitch-envelope-level.clauses 𝓛 mem run)
  pitch_envelope_level_settled κs a g z y ws vs = equal 𝓤 _ z y refl

  pub operator_envelope_increment_settled
      : Settled 𝓤 operator-envelope-increment.ended (operator-envelope-increment.clauses 𝓛 mem run)
  operator_envelope_increment_settled κs a g z y ws vs = equal 𝓤 _ z y refl

  pub pitch_envelope_increment_settled
      : Settled 𝓤 pitch-envelope-increment.ended (pitch-envelope-increment.clauses 𝓛 mem run)
  pitch_envelope_increment_settled κs a g z y ws vs = equal 𝓤 _ z y refl

  pub lfo_frequency_settled : Settled 𝓤 lfo-frequency.ended (lfo-frequency.clauses 𝓛 mem run)
  lfo_frequency_settled κs a g z y ws vs = equal 𝓤 _ z y refl

  pub lfo_delay_settled : Settled 𝓤 lfo-delay.ended (lfo-delay.clauses 𝓛 mem run)
  lfo_delay_settled κs a g z y ws vs = equal 𝓤 _ z y refl

  pub normalize_velocity_settled : Settled 𝓤 normalize-velocity.ended (normalize-velocity.clauses 𝓛 mem run)
  normalize_velocity_settled κs a g z y ws vs = equal 𝓤 _ z y refl

  pub rate_scaling_settled : Settled 𝓤 rate-scaling.ended (rate-scaling.clauses 𝓛 mem run)
  rate_scaling_settled κs a g z y ws vs = equal 𝓤 _ z y refl

  pub amp_mod_sensitivity_settled : Settled 𝓤 amp-mod-sensitivity.ended (amp-mod-sensitivity.clauses 𝓛 mem run)
  amp_mod_sensitivity_settled κs a g z y ws vs = equal 𝓤 _ z y refl

  pub pitch_mod_sensitivity_settled
      : Settled 𝓤 pitch-mod-sensitivity.ended (pitch-mod-sensitivity.clauses 𝓛 mem run)
  pitch_mod_sensitivity_settled κs a g z y ws vs = equal 𝓤 _ z y refl

  pub keyboard_scaling_settled : Settled 𝓤 keyboard-scaling.ended (keyboard-scaling.clauses 𝓛 mem run)
  keyboard_scaling_settled κs a g z y ws vs = equal 𝓤 _ z y refl

  pub frequency_ratio_settled : Settled 𝓤 frequency-ratio.ended (frequency-ratio.clauses 𝓛 mem run)
  frequency_ratio_settled κs a g z y ws vs = equal 𝓤 _ z y refl

  -- ---- patches

  pub patch_unpack_settled : Settled 𝓤 patch-unpack.ended (patch-unpack.clauses 𝓛 mem run)
  patch_unpack_settled κs a g z y ws vs = equal 𝓤 _ z y refl

  pub patch_limits_check_settled : Settled 𝓤 patch-limits-check.ended (patch-limits-check.clauses 𝓛 mem run)
  patch_limits_check_settled κs a g z y ws vs = equal 𝓤 _ z y refl

  pub patch_packer_pack_settled : Settled 𝓤 patch-packer-pack.ended (patch-packer-pack.clauses 𝓛 mem run)
  patch_packer_pack_settled κs a g z y ws vs = equal 𝓤 _ z y refl

  -- ---- banks

  pub dump_checksum_settled : Settled 𝓤 dump-checksum.ended (dump-checksum.clauses 𝓛 mem run)
  dump_checksum_settled κs a g z y ws vs = equal 𝓤 _ z y refl

  pub bank_validate_settled : Settled 𝓤 bank-validate.ended (bank-validate.clauses 𝓛 mem run)
  bank_validate_settled κs a g z y ws vs = equal 𝓤 _ z y refl

  pub bank_check_settled : Settled 𝓤 bank-check.ended (bank-check.clauses 𝓛 mem run)
  bank_check_settled κs a g z y ws vs = equal 𝓤 _ z y refl

  pub bank_channel_settled : Settled 𝓤 bank_channel.ended (bank_channel.clauses 𝓛 mem run)
  bank_channel_settled κs a g z y ws vs = equal 𝓤 _ z y refl

  pub bank_reader_check_settled : Settled 𝓤 bank-reader-check.ended (bank-reader-check.clauses 𝓛 mem run)
  bank_reader_check_settled κs a g z y ws vs = equal 𝓤 _ z y refl

  pub bank_reader_channel_settled : Settled 𝓤 bank-reader-channel.ended (bank-reader-channel.clauses 𝓛 mem run)
  bank_reader_channel_settled κs a g z y ws vs = equal 𝓤 _ z y refl

  -- ---- single-voice dumps

  pub pieces_open_settled : Settled 𝓤 pieces-open.ended (pieces-open.clauses 𝓛 mem run)
  pieces_open_settled κs a g z y ws vs = equal 𝓤 _ z y refl

  pub pieces_end_settled : Settled 𝓤 Pieces-end.ended (Pieces-end.clauses 𝓛 mem run)
  pieces_end_settled κs a g z y ws vs = equal 𝓤 _ z y refl

  pub single_read_settled : Settled 𝓤 single-read.ended (single-read.clauses 𝓛 mem run)
  single_read_settled κs a g z y ws vs = equal 𝓤 _ z y refl

  pub single_write_settled : Settled 𝓤 single-write.ended (single-write.clauses 𝓛 mem run)
  single_write_settled κs a g z y ws vs = equal 𝓤 _ z y refl

  pub single_from_packed_settled : Settled 𝓤 single-from-packed.ended (single-from-packed.clauses 𝓛 mem run)
  single_from_packed_settled κs a g z y ws vs = equal 𝓤 _ z y refl

  pub single_to_packed_settled : Settled 𝓤 single-to-packed.ended (single-to-packed.clauses 𝓛 mem run)
  single_to_packed_settled κs a g z y ws vs = equal 𝓤 _ z y refl

  -- ---- rows

  pub algorithms_compile_settled : Settled 𝓤 algorithms-compile.ended (algorithms-compile.clauses 𝓛 mem run)
  algorithms_compile_settled κs a g z y ws vs = equal 𝓤 _ z y refl

  pub algorithms_compile_row_settled
      : Settled 𝓤 algorithms-compile-row.ended (algorithms-compile-row.clauses 𝓛 mem run)
  algorithms_compile_row_settled κs a g z y ws vs = equal 𝓤 _ z y refl

  pub algorithms_is_modulator_settled
      : Settled 𝓤 algorithms-is-modulator.ended (algorithms-is-modulator.clauses 𝓛 mem run)
  algorithms_is_modulator_settled κs a g z y ws vs = equal 𝓤 _ z y refl

  -- ---- envelopes

  pub envelope_init_settled : Settled 𝓤 envelope-init.ended (envelope-init.clauses 𝓛 mem run)
  envelope_init_settled κs a g z y ws vs = equal 𝓤 _ z y refl

  pub envelope_set_settled : Settled 𝓤 envelope-set.ended (envelope-set.clauses 𝓛 mem run)
  envelope_set_settled κs a g z y ws vs = equal 𝓤 _ z y refl

  pub envelope_operator_set_settled
      : Settled 𝓤 envelope-operator-set.ended (envelope-operator-set.clauses 𝓛 mem run)
  envelope_operator_set_settled κs a g z y ws vs = equal 𝓤 _ z y refl

  pub envelope_pitch_set_settled : Settled 𝓤 envelope-pitch-set.ended (envelope-pitch-set.clauses 𝓛 mem run)
  envelope_pitch_set_settled κs a g z y ws vs = equal 𝓤 _ z y refl

  pub envelope_render_settled : Settled 𝓤 envelope-render.ended (envelope-render.clauses 𝓛 mem run)
  envelope_render_settled κs a g z y ws vs = equal 𝓤 _ z y refl

  pub envelope_render_at_sample_settled
      : Settled 𝓤 envelope-render-at-sample.ended (envelope-render-at-sample.clauses 𝓛 mem run)
  envelope_render_at_sample_settled κs a g z y ws vs = equal 𝓤 _ z y refl

  pub envelope_current_value_settled
      : Settled 𝓤 envelope-current-value.ended (envelope-current-value.clauses 𝓛 mem run)
  envelope_current_value_settled κs a g z y ws vs = equal 𝓤 _ z y refl

  pub envelope_value_settled : Settled 𝓤 envelope-value.ended (envelope-value.clauses 𝓛 mem run)
  envelope_value_settled κs a g z y ws vs = equal 𝓤 _ z y refl

  -- ---- LFO

  pub lfo_init_settled : Settled 𝓤 lfo-init.ended (lfo-init.clauses 𝓛 mem run)
  lfo_init_settled κs a g z y ws vs = equal 𝓤 _ z y refl

  pub lfo_set_settled : Settled 𝓤 lfo-set.ended (lfo-set.clauses 𝓛 mem run)
  lfo_set_settled κs a g z y ws vs = equal 𝓤 _ z y refl

  pub lfo_reset_settled : Settled 𝓤 lfo-reset.ended (lfo-reset.clauses 𝓛 mem run)
  lfo_reset_settled κs a g z y ws vs = equal 𝓤 _ z y refl

  pub lfo_step_settled : Settled 𝓤 lfo-step.ended (lfo-step.clauses 𝓛 mem run)
  lfo_step_settled κs a g z y ws vs = equal 𝓤 _ z y refl

  pub lfo_step_with_settled : Settled 𝓤 lfo-step-with.ended (lfo-step-with.clauses 𝓛 mem run)
  lfo_step_with_settled κs a g z y ws vs = equal 𝓤 _ z y refl

  pub lfo_scrub_settled : Settled 𝓤 lfo-scrub.ended (lfo-scrub.clauses 𝓛 mem run)
  lfo_scrub_settled κs a g z y ws vs = equal 𝓤 _ z y refl

  pub lfo_scrub_with_settled : Settled 𝓤 lfo-scrub-with.ended (lfo-scrub-with.clauses 𝓛 mem run)
  lfo_scrub_with_settled κs a g z y ws vs = equal 𝓤 _ z y refl

  pub lfo_value_settled : Settled 𝓤 lfo-value.ended (lfo-value.clauses 𝓛 mem run)
  lfo_value_settled κs a g z y ws vs = equal 𝓤 _ z y refl

  pub lfo_value_with_settled : Settled 𝓤 lfo-value-with.ended (lfo-value-with.clauses 𝓛 mem run)
  lfo_value_with_settled κs a g z y ws vs = equal 𝓤 _ z y refl

  pub lfo_delay_ramp_settled : Settled 𝓤 lfo-delay-ramp.ended (lfo-delay-ramp.clauses 𝓛 mem run)
  lfo_delay_ramp_settled κs a g z y ws vs = equal 𝓤 _ z y refl

  pub lfo_pitch_mod_settled : Settled 𝓤 lfo-pitch-mod.ended (lfo-pitch-mod.clauses 𝓛 mem run)
  lfo_pitch_mod_settled κs a g z y ws vs = equal 𝓤 _ z y refl

  pub lfo_amp_mod_settled : Settled 𝓤 lfo-amp-mod.ended (lfo-amp-mod.clauses 𝓛 mem run)
  lfo_amp_mod_settled κs a g z y ws vs = equal 𝓤 _ z y refl

  -- ---- voices

  pub voice_init_settled : Settled 𝓤 voice-init.ended (voice-init.clauses 𝓛 mem run)
  voice_init_settled κs a g z y ws vs = equal 𝓤 _ z y refl

  pub voice_set_patch_settled : Settled 𝓤 voice-set-patch.ended (voice-set-patch.clauses 𝓛 mem run)
  voice_set_patch_settled κs a g z y ws vs = equal 𝓤 _ z y refl

  pub voice_take_patch_settled : Settled 𝓤 voice-take-patch.ended (voice-take-patch.clauses 𝓛 mem run)
  voice_take_patch_settled κs a g z y ws vs = equal 𝓤 _ z y refl

  pub voice_patch_settled : Settled 𝓤 voice-patch.ended (voice-patch.clauses 𝓛 mem run)
  voice_patch_settled κs a g z y ws vs = equal 𝓤 _ z y refl

  pub voice_set_transposing_settled : Settled 𝓤 voice-set-transposing.ended
      (voice-set-transposing.clauses 𝓛 mem run)
  voice_set_transposing_settled κs a g z y ws vs = equal 𝓤 _ z y refl

  pub voice_setup_settled : Settled 𝓤 voice-setup.ended (voice-setup.clauses 𝓛 mem run)
  voice_setup_settled κs a g z y ws vs = equal 𝓤 _ z y refl

  -- ---- identifiers

  pub identity_identify_settled : Settled 𝓤 identity-identify.ended (identity-identify.clauses 𝓛 mem run)
  identity_identify_settled κs a g z y ws vs = equal 𝓤 _ z y refl

  -- ---- promises that are no plain equation

  -- a reader: its two fields
  pub bank_reader_new_settled : Settled 𝓤 bank-reader-new.ended (bank-reader-new.clauses 𝓛 mem run)
  bank_reader_new_settled κs a g z y ws vs = both 𝓤 _ _ _ (λ p q. (rw (p.0, q.0, p.1, q.1), refl))

  pub bank_reader_moved_settled : Settled 𝓤 bank-reader-moved.ended (bank-reader-moved.clauses 𝓛 mem run)
  bank_reader_moved_settled κs a g z y ws vs = both 𝓤 _ _ _ (λ p q. (rw (p.0, q.0, p.1, q.1), refl))

  -- a part: its bytes, and its place
  pub bank_part_settled : Common 𝓤 bank-part.ended (bank-part.clauses 𝓛 mem run)
      (λ κs a z y ws vs. (bytes_in z ≡ bytes_in y) × (place_in z ≡ place_in y))
  bank_part_settled κs a g z y ws vs = same_part 𝓤 _ _ z y

  pub bank_read_settled : Common 𝓤 bank-read.ended (bank-read.clauses 𝓛 mem run)
      (λ κs a z y ws vs. (bytes_in z ≡ bytes_in y) × (place_in z ≡ place_in y))
  bank_read_settled κs a g z y ws vs = same_part 𝓤 _ _ z y

  pub bank_reader_part_settled : Common 𝓤 bank-reader-part.ended (bank-reader-part.clauses 𝓛 mem run)
      (λ κs a z y ws vs. (bytes_in z ≡ bytes_in y) × (place_in z ≡ place_in y))
  bank_reader_part_settled κs a g z y ws vs = same_part 𝓤 _ _ z y

  -- a text: its length, and the whole buffer
  pub plan_text_print_settled : Settled 𝓤 plan-text-print.ended (plan-text-print.clauses 𝓛 mem run)
  plan_text_print_settled κs a g z y ws vs =
      both 𝓤 _ _ _ (λ p q.
      (p.next_place ∙ sym q.next_place, ap (λ x. (tt, (x, tt))) (p.buffer ∙ sym q.buffer)))

  pub refusals_text_settled : Settled 𝓤 refusals-text.ended (refusals-text.clauses 𝓛 mem run)
  refusals_text_settled κs a g z y ws vs =
      both 𝓤 _ _ _ (λ p q. (p.size ∙ sym q.size, ap (λ x. (tt, (x, tt))) (p.buffer ∙ sym q.buffer)))

  -- a piece: the answer, and the whole buffer
  pub pieces_take_settled : Settled 𝓤 pieces-take.ended (pieces-take.clauses 𝓛 mem run)
  pieces_take_settled κs a g z y ws vs = both 𝓤 _ _ _ (λ p q. let e = p ∙ sym q in (
    ap (λ (x : PieceAnswered). x.answer) e,
    ap (λ (x : PieceAnswered). (tt, (tt, (x.patch, tt)))) e,
  ))

  -- a block: the answer, and the whole block
  pub voice_render_settled : Settled 𝓤 voice-render.ended (voice-render.clauses 𝓛 mem run)
  voice_render_settled κs a g z y ws vs = both 𝓤 _ _ _ (λ p q. let e = p ∙ sym q in (
    ap (λ (x : Answered). x.answer) e,
    ap (λ (x : Answered). (tt, (tt, (x.block, tt)))) e,
  ))

  pub voice_render_with_settled : Settled 𝓤 voice-render-with.ended (voice-render-with.clauses 𝓛 mem run)
  voice_render_with_settled κs a g z y ws vs = both 𝓤 _ _ _ (λ p q. let e = p ∙ sym q in (
    ap (λ (x : Answered). x.answer) e,
    ap (λ (x : Answered). (tt, (tt, (tt, (tt, (tt, (x.block, tt))))))) e,
  ))
