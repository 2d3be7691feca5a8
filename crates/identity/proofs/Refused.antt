-- Which patches have something to play: those that 6 names neither for the voice nor for the LFO. Assumes nothing.
use Rattle.std.proofs.Common.{◌≡◌, ℕ, zero, suc, ◌<◌, Bool, true, false, cond, ◌&&◌, T, eqb, leb, sym, refl, ap, ◌∙◌}
use Rattle.std.proofs.Common.{Result, is_ok}
use Rattle.std.proofs.Common.{subst, arith, leb→le, eqb-true, Ok, Err}
use borrow.Author.Tests.{eqb-false}
use lib.Ieee.{lt, le}
use lib.Ieee.Fits.{and_l, and_r}
use Rattle.numbers.specs.F32.{◌⊘◌, decimal}
use Rattle.refusals.specs.declared.Refusal.TheVariants.{Field}
use Rattle.refusals.specs.Answer.{refused, state_after}
use Rattle.patch.specs.declared.Patch.{Patch}
use Rattle.patch.specs.Layout.{patch_sensitivity, lfo_sensitivity}
use Rattle.patch.specs.Packed.{patch_fits, operators_fit, stages_fit, modulations_fit, name_fits}
use Rattle.patch_limits.proofs.Within.{patch_fits_lem}
use Rattle.algorithms.specs.Opcode.{destination, adding, source, flagged}
use Rattle.algorithms.specs.Chain.{last_operator, unmet, ends, grown, reused, chained, origin_from, modulation, known}
use Rattle.algorithms.specs.Chain.{renders, call_length, rendered}
use Rattle.algorithms.specs.Plan.{call_of, reading, ready, unready, extended, plan_from, counted, planned}
use Rattle.algorithms.specs.Table.{six, tabled, row_of, with_row, compiled}
use Rattle.algorithms_opcodes.specs.Opcodes.{six_operators}
use Rattle.envelope_inner.specs.Envelope.{initialised, all_stages}
use Rattle.lfo_inner.specs.declared.Lfo.{Lfo}
use Rattle.lfo_inner.specs.Lfo.{fresh_lfo, adjusted, restarted}
use Rattle.lfo.specs.Answers as lfo
use Rattle.lfo.specs.Calls.{Set, answer_to, Valid}
use Rattle.lfo.proofs.Calls.{init_valid, call_keeps}
use Rattle.voice.specs.declared.Voice.{Voice}
use Rattle.voice.specs.Voice.{voice_with, fresh_voice}
use Rattle.voice.specs.Answers as voice
use Rattle.voice.proofs.Kept.{set_patch_keeps}
use Rattle.voice.proofs.Switch.{set_patch_switch}
use Rattle.patch_limits.specs.Ranges.{sample_rate_fits}
use Rattle.identity.specs.Identity.{readied}

-- the rows below n of the table are accepted
unfoldable rows_accepted : ℕ → Bool
rows_accepted zero = true
rows_accepted (suc n) = is_ok (compiled 6 six_operators n) && rows_accepted n

all_accepted : rows_accepted 32 ≡ true
unfolding rows_accepted destination adding source flagged last_operator unmet ends grown reused chained origin_from
    modulation known renders call_length rendered call_of reading ready unready extended plan_from counted planned six
    tabled row_of with_row compiled
all_accepted = refl

is_true : (b : Bool) → T b → b ≡ true
is_true true t = refl
is_true false t = absurd t

row_accepted_lem : (n a : ℕ) → T (rows_accepted n) → a < n → T (is_ok (compiled 6 six_operators a))
unfolding rows_accepted
row_accepted_lem zero a t h = let z : ⊥ = omega arith in absurd z
row_accepted_lem (suc n) a t h =
    let head = is_ok (compiled 6 six_operators n) in
    go (eqb a n) refl (and_l head (rows_accepted n) t)
    (λ k. row_accepted_lem n a (and_r head (rows_accepted n) t) k)
  where
    go : (b : Bool) → eqb a n ≡ b → T (is_ok (compiled 6 six_operators n))
        → (a < n → T (is_ok (compiled 6 six_operators a))) → T (is_ok (compiled 6 six_operators a))
    go true e here before = subst (λ (k : ℕ). T (is_ok (compiled 6 six_operators k))) (sym (eqb-true a n e)) here
    go false e here before = let z = eqb-false a n e in before (omega arith)

ok_is : {A E : Type 0} (r : Result A E) → T (is_ok r) → (x : A) × (r ≡ Ok x)
ok_is (Ok x) t = (x, refl)
ok_is (Err e) t = absurd t

-- an accepted patch names one of 32 rows
algorithm_of : (p : Patch) → T (patch_fits p) → p.algorithm < 32
algorithm_of p t =
    let a = operators_fit p.op in
    let b = stages_fit p.pitch_envelope.rate in
    let c = stages_fit p.pitch_envelope.level in
    let d = leb p.algorithm 31 in
    let e = leb p.feedback 7 in
    let f = leb p.reset_phase 1 in
    let g = modulations_fit p.modulations patch_sensitivity in
    let h = leb p.transpose 48 in
    let i = name_fits p.name in
    let j = eqb p.active_operators 63 in
    let fits =
    and_r (a && b && c) d
    (and_l (a && b && c && d) e
    (and_l (a && b && c && d && e) f
    (and_l (a && b && c && d && e && f) g
    (and_l (a && b && c && d && e && f && g) h
    (and_l (a && b && c && d && e && f && g && h) i
    (and_l (a && b && c && d && e && f && g && h && i) j (subst T (patch_fits_lem p) t))))))) in
    let most = leb→le p.algorithm 31 fits in
    omega arith

-- ---- what a note starts from

abbrev pub first_voice : Voice
first_voice = fresh_voice 6 (decimal 48000 0)

abbrev pub first_lfo : Lfo
first_lfo = fresh_lfo (decimal 1 0 ⊘ decimal 48000 0) (decimal 1 1)

rate_fits : sample_rate_fits (decimal 48000 0) ≡ true
unfolding sample_rate_fits decimal le lt
rate_fits = refl

pub voice_made : voice.init_answer 6 (decimal 48000 0) ≡ Ok first_voice
unfolding voice.init_answer counted
voice_made = rw rate_fits refl

voice_fits : voice.state_fits first_voice ≡ true
unfolding voice.state_fits counted fresh_voice voice_with all_stages initialised
voice_fits = refl

voice_six : first_voice.operators ≡ 6
unfolding fresh_voice voice_with
voice_six = refl

pub lfo_made : lfo.init_answer (decimal 48000 0) ≡ Ok first_lfo
unfolding lfo.init_answer
lfo_made = rw rate_fits refl

first_valid : Valid first_lfo
first_valid = rw lfo_made at (init_valid (decimal 48000 0) (subst T (sym rate_fits) tt))

module _ (p : Patch) where
  -- a voice with the patch, and its LFO
  abbrev pub voice_taken : Voice
  voice_taken = state_after (voice.set_patch_answer first_voice p six_operators)

  abbrev pub lfo_taken : Lfo
  lfo_taken = adjusted first_lfo p.modulations

  pub patch_taken : patch_fits p ≡ true → voice.set_patch_answer first_voice p six_operators ≡ Ok voice_taken
  unfolding voice.set_patch_answer voice.row_compiled
  patch_taken fits =
      let row = ok_is (compiled 6 six_operators p.algorithm)
      (row_accepted_lem 32 p.algorithm (subst T (sym all_accepted) tt) (algorithm_of p (subst T (sym fits) tt))) in
      rw (voice_fits, voice_six, fits, row.1) refl

  -- 9 accepts that voice, whose switch is off
  pub voice_fits_lem : T (voice.state_fits voice_taken)
  voice_fits_lem = (set_patch_keeps first_voice (subst T (sym voice_fits) tt) p six_operators).0

  pub voice_off : voice_taken.transposing ≡ false
  unfolding fresh_voice voice_with
  voice_off = set_patch_switch first_voice p six_operators

  patch_refused : patch_fits p ≡ false → voice.set_patch_answer first_voice p six_operators ≡ refused Field first_voice
  unfolding voice.set_patch_answer voice.row_compiled
  patch_refused fits = rw (voice_fits, fits) refl

  module _ (b : Bool) (e : modulations_fit p.modulations lfo_sensitivity ≡ b) where
    pub modulations_taken : lfo.set_answer first_lfo p.modulations ≡ cond b (Ok lfo_taken) (refused Field first_lfo)
    unfolding lfo.set_answer
    modulations_taken = rw (is_true (lfo.state_fits first_lfo) first_valid.accepted, e) refl

  pub taken_valid : modulations_fit p.modulations lfo_sensitivity ≡ true → Valid lfo_taken
  unfolding answer_to
  taken_valid e = rw (modulations_taken true e) at (call_keeps first_lfo first_valid (Set p.modulations)).0

  -- what a patch that both take is played with
  pub readied_is : patch_fits p ≡ true → modulations_fit p.modulations lfo_sensitivity ≡ true
      → readied p ≡ Ok (record { voice = voice_taken; lfo = restarted lfo_taken })
  unfolding readied lfo.reset_answer
  readied_is e f =
      let state = is_true (lfo.state_fits lfo_taken) (taken_valid f).accepted in
      rw (voice_made, patch_taken e, lfo_made, modulations_taken true f, state) refl

  -- any other gets 6
  pub readied_refused : (patch_fits p && modulations_fit p.modulations lfo_sensitivity) ≡ false → readied p ≡ Err Field
  unfolding readied
  readied_refused e = go (patch_fits p) (modulations_fit p.modulations lfo_sensitivity) refl refl e
    where
      go : (a b : Bool) → patch_fits p ≡ a → modulations_fit p.modulations lfo_sensitivity ≡ b → (a && b) ≡ false
          → readied p ≡ Err Field
      go true false f g h = rw (voice_made, patch_taken f, lfo_made, modulations_taken false g) refl
      go false b f g h = rw (voice_made, patch_refused f) refl
      go true true f g h = cc
