-- No call on the way to an identifier is refused: from an accepted voice and a tame LFO every block is answered and
-- leaves such a voice and such an LFO.
-- Assumes nothing.
use mathlib.Core.Path.{◌≡◌, refl, ap, sym, ◌∙◌}
use mathlib.Core.Bool.{Bool, true, false, cond, ◌&&◌}
use mathlib.Core.List.{List}
use Prim.Native.Nat.{ℕ, zero, suc}
use native.Mathlib.Omega.{arith}
use lib.Dec.{T}
use lib.ListN.{length}
use lib.Ieee.{Float, lt, le}
use lib.Ieee.Bits.{is_true}
use Rattle.std.specs.Prelude.{Result, Ok, ⊤, take}
use Rattle.std.specs.Result.{is_ok}
use Rattle.numbers.specs.F32.{decimal, minus_decimal}
use Rattle.refusals.specs.declared.Refusal.{Refusal}
use Rattle.refusals.specs.Answer.{number_given}
use Rattle.patch.specs.declared.Patch.{Patch}
use Rattle.patch.specs.Layout.{lfo_sensitivity}
use Rattle.patch.specs.Packed.{patch_fits, modulations_fit}
use Rattle.patch_limits.specs.Ranges.{between, note_fits, unit_fits}
use Rattle.lfo_inner.specs.Lfo.{restarted, stepped, settled, pitch_mod_of, amp_mod_of}
use Rattle.sine.specs.Table.{lut_sine}
use Rattle.sine.specs.Pairs.{sine_pairs}
use Rattle.units.specs.Tables.{lut_pitch_ratio_high, lut_pitch_ratio_low}
use Rattle.voice.specs.declared.Voice.{Voice}
use Rattle.voice.specs.Answers.{state_fits}
use Rattle.voice_render.specs.declared.Rendered.{Rendered}
use Rattle.voice_render.specs.declared.VoiceParameters.{VoiceParameters}
use Rattle.voice_render.specs.Setup.{set_up}
use Rattle.voice_render.specs.Block.{played_by, sounded}
use Rattle.voice_render.specs.Answers.{block_fits, parameters_fit, blank, sounding}
use Rattle.voice_render.specs.Answers.{voice_rendered, render_answer}
use Rattle.voice_render.proofs.Kept.{render_keeps}
use Rattle.voice_render.proofs.Switch.{fits_as_given, render_switch}
use Rattle.identity.specs.declared.Ready.{Ready}
use Rattle.identity.specs.declared.Playing.{Playing}
use Rattle.identity.specs.declared.Tables.{Tables}
use Rattle.identity.specs.Identity.{parameters_of, silence, set_up_for, block_played, blocks_played}
use Rattle.identity.specs.Hash.{hash_basis, hashed_samples}
use Rattle.identity.specs.Identity.{after, note_played, notes_played, identity_of}
use Rattle.identity.proofs.Refused.{voice_made, voice_taken, lfo_made, lfo_taken, patch_taken, modulations_taken}
use Rattle.identity.proofs.Refused.{taken_valid, readied_is, readied_refused, voice_fits_lem, voice_off}
use Rattle.theorem_answered.specs.Answered.{ready_answered, set_up_answered, block_answered, blocks_answered}
use Rattle.theorem_answered.specs.Answered.{goes_on, note_answered, notes_answered, identity_answered}
use Rattle.theorem_answered.proofs.Modulations.{Tame, ready_tame, step_tame, pitch_within, amp_within, reset_is}

-- calls that are all answered, with what they leave
pub record Goes {A E : Type 0} (answered : Bool) (r : Result A E) (P : A → Type 0) : Type 0 where
  pub all : answered ≡ true
  pub value : A
  pub there : r ≡ Ok value
  pub has : P value

-- what follows such calls
then_goes : {A B : Type 0} {t : Bool} {r : Result A Refusal} {P : A → Type 0} (test : A → Bool)
    (f : A → Result B Refusal) {Q : B → Type 0} (g : Goes t r P) → Goes (test g.value) (f g.value) Q
    → Goes (t && goes_on r test) (after r f) Q
then_goes test f g h =
    record { all = rw (g.all, g.there) h.all; value = h.value; there = rw g.there h.there; has = h.has }

together : {a b : Bool} → a ≡ true → b ≡ true → (a && b) ≡ true
together e f = rw (e, f) refl

-- ---- a block of the voice

-- a note that a block takes, and the modulations
abbrev pub KeyFits : Float → Type 0
KeyFits x = note_fits x ≡ true

abbrev PitchFits : Float → Type 0
PitchFits x = between (minus_decimal 4 0) (decimal 4 0) x ≡ true

abbrev UnitFits : Float → Type 0
UnitFits x = unit_fits x ≡ true

silence_fits : block_fits (length silence) ≡ true
unfolding block_fits
silence_fits = refl

parameters_fit_lem : (note pitch amp : Float) (gate : Bool) → KeyFits note → PitchFits pitch → UnitFits amp
    → parameters_fit (parameters_of note gate pitch amp) ≡ true
unfolding parameters_fit parameters_of decimal le lt
parameters_fit_lem note pitch amp gate k p a = together (together (together (together (together k refl) refl) refl) p) a

-- a voice that 9 accepts, its switch off
pub record Plain (v : Voice) : Type 0 where
  pub fits : T (state_fits v)
  pub off : v.transposing ≡ false

-- any block leaves such a voice
render_plain : (pairs high low : List Float) (v : Voice) (p : VoiceParameters) (block : List Float) → Plain v
    → Plain (voice_rendered (render_answer pairs high low v p block).answer)
render_plain pairs high low v p block t = record {
  fits = (render_keeps v t.fits pairs high low p block).0;
  off = render_switch pairs high low v p block ∙ t.off;
}

-- neither 9 nor 8 nor 7
render_is : (pairs high low : List Float) (v : Voice) (p : VoiceParameters) (block : List Float) → Plain v
    → block_fits (length block) ≡ true → parameters_fit p ≡ true
    → (r : Rendered) × ((render_answer pairs high low v p block).answer ≡ Ok r)
unfolding render_answer
render_is pairs high low v p block t size fit =
    let asked = fits_as_given v p (ap (λ (b : Bool). b && v.has_patch) t.off) in
    rw (is_true (state_fits v) t.fits, size, asked, fit) (go v.dirty)
  where
    go : (b : Bool)
        → (r : Rendered)
        × ((cond b (blank (set_up high low v) block) (sounding (sounded pairs high low v (played_by v p) block))).answer
        ≡ Ok r)
    go true = (_, refl)
    go false = (_, refl)

render_goes : (pairs high low : List Float) (v : Voice) (p : VoiceParameters) (block : List Float) → Plain v
    → block_fits (length block) ≡ true → parameters_fit p ≡ true
    → let answer = (render_answer pairs high low v p block).answer in
    Goes (is_ok answer) answer (λ r. Plain r.voice)
render_goes pairs high low v p block t size fit =
    let k = render_is pairs high low v p block t size fit in
    let kept = render_plain pairs high low v p block t in
    record {
      all = ap (λ a. is_ok a) k.1;
      value = k.0;
      there = k.1;
      has = rw k.1 at kept;
    }

-- ---- a block of a note

-- what a block is played from, and leaves: a voice that 9 accepts, its switch off, and a tame LFO
pub record Playable (s : Playing) : Type 0 where
  pub voice : Plain s.voice
  pub lfo : Tame s.motion.lfo

-- the LFO's sine is the built-in one, the voice's tables are any
abbrev pub sine_with : List Float → List Float → List Float → Tables
sine_with pairs high low = record { lut = lut_sine; pairs = pairs; high = high; low = low }

module _ (pairs high low : List Float) (note : Float) (key : KeyFits note) where
  abbrev tables : Tables
  tables = sine_with pairs high low

  set_up_goes : (v : Voice) → Plain v → Goes (set_up_answered tables v note) (set_up_for tables v note) Plain
  unfolding set_up_answered set_up_for decimal minus_decimal le lt
  set_up_goes v t =
      let g = render_goes pairs high low v (parameters_of note false (decimal 0 0) (decimal 0 0)) silence t silence_fits
      (parameters_fit_lem note _ _ false key refl refl) in
      record { all = g.all; value = g.value.voice; there = rw g.there refl; has = g.has }

  block_goes : (gate : Bool) (s : Playing) → Playable s
      → Goes (block_answered tables note gate s) (block_played tables note gate s) Playable
  unfolding block_answered block_played
  block_goes gate s t =
      let m = settled lut_sine (stepped s.motion.lfo s.motion.state (decimal 64 0)) in
      let step = step_tame s.motion t.lfo in
      let pitch = pitch_within m.lfo step.1 in
      let amp = amp_within m.lfo step.1 in
      let p = parameters_of note gate (pitch_mod_of m.lfo) (amp_mod_of m.lfo) in
      let block = (render_answer pairs high low s.voice p silence).block in
      let g = render_goes pairs high low s.voice p silence t.voice silence_fits
      (parameters_fit_lem note _ _ gate key (is_true _ pitch.1) (is_true _ amp.1)) in
      record {
        all = rw (step.0, pitch.0, amp.0, g.there) refl;
        value = record { voice = g.value.voice; motion = m; hash = hashed_samples s.hash (take 64 block) };
        there = rw (step.0, pitch.0, amp.0, g.there) refl;
        has = record { voice = g.has; lfo = step.1 };
      }

  -- ---- so many blocks

  blocks_go : (gate : Bool) (n : ℕ) (s : Playing) → Playable s
      → Goes (blocks_answered tables note gate n s) (blocks_played tables note gate n s) Playable
  unfolding blocks_answered blocks_played
  blocks_go gate zero s t = record { all = refl; value = s; there = refl; has = t }
  blocks_go gate (suc n) s t =
      let one = block_goes gate s t in
      then_goes _ _ one (blocks_go gate n one.value one.has)

  -- ---- a note

  pub note_goes : (r : Ready) (hash : ℕ) → Plain r.voice → Tame r.lfo
      → Goes (note_answered tables r note hash) (note_played tables r note hash) (λ h. ⊤)
  unfolding note_answered note_played
  note_goes r hash v l =
      let up = set_up_goes r.voice v in
      let s : Playing =
      record { voice = up.value; motion = record { lfo = r.lfo; state = 0x21 }; hash = hash } in
      let held = blocks_go true 128 s (record { voice = up.has; lfo = l }) in
      let released = blocks_go false 64 held.value held.has in
      record {
        all = rw (up.all, up.there, held.all, held.there) released.all;
        value = released.value.hash;
        there = rw (up.there, held.there, released.there) refl;
        has = tt;
      }

-- ---- the three notes

keys_fit : KeyFits (decimal 36 0) × KeyFits (decimal 60 0) × KeyFits (decimal 84 0)
unfolding decimal le lt
keys_fit = (refl, refl, refl)

notes_go : (pairs high low : List Float) (r : Ready) → Plain r.voice → Tame r.lfo
    → Goes (notes_answered (sine_with pairs high low) r) (notes_played (sine_with pairs high low) r) (λ h. ⊤)
unfolding notes_answered notes_played
notes_go pairs high low r v l =
    let one = note_goes pairs high low (decimal 36 0) keys_fit.0 r hash_basis v l in
    let two = note_goes pairs high low (decimal 60 0) keys_fit.1 r one.value v l in
    let three = note_goes pairs high low (decimal 84 0) keys_fit.2 r two.value v l in
    then_goes _ _ one (then_goes _ _ two three)

-- ---- what comes before the notes

module _ (p : Patch) (fits : patch_fits p ≡ true) (modulated : modulations_fit p.modulations lfo_sensitivity ≡ true) where
  ready_answered_lem : ready_answered p ≡ true
  unfolding ready_answered
  ready_answered_lem =
      rw (
        voice_made,
        patch_taken p fits,
        lfo_made,
        modulations_taken p true modulated,
        reset_is (lfo_taken p) (taken_valid p modulated),
      ) refl

  -- every call is answered, and there is an identifier
  pub identity_goes : Goes (identity_answered p) (identity_of p) (λ h. ⊤)
  unfolding identity_of identity_answered
  identity_goes =
      let ready = readied_is p fits modulated in
      let v : Plain (voice_taken p) = record { fits = voice_fits_lem p; off = voice_off p } in
      let r : Ready = record { voice = voice_taken p; lfo = restarted (lfo_taken p) } in
      let g = notes_go sine_pairs lut_pitch_ratio_high lut_pitch_ratio_low r v (ready_tame p modulated) in
      record {
        all = rw (ready_answered_lem, ready) g.all;
        value = g.value;
        there = rw ready g.there;
        has = tt;
      }

-- a patch in range with a sensitivity that an LFO takes has an identifier; any other gets 6
pub number_of : (p : Patch)
    → number_given (identity_of p) ≡ cond (patch_fits p && modulations_fit p.modulations lfo_sensitivity) 0 6
unfolding identity_of
number_of p = go (patch_fits p) (modulations_fit p.modulations lfo_sensitivity) refl refl
  where
    refused : (patch_fits p && modulations_fit p.modulations lfo_sensitivity) ≡ false → number_given (identity_of p) ≡ 6
    refused e = rw (readied_refused p e) refl

    go : (a b : Bool) → patch_fits p ≡ a → modulations_fit p.modulations lfo_sensitivity ≡ b
        → number_given (identity_of p) ≡ cond (a && b) 0 6
    go true true e f = rw (identity_goes p e f).there refl
    go true false e f = refused (rw (e, f) refl)
    go false b e f = refused (rw e refl)

-- a patch that has an identifier has it from answered calls alone
pub identity_answered_lem : (p : Patch) → number_given (identity_of p) ≡ 0 → identity_answered p ≡ true
identity_answered_lem p e =
    go (patch_fits p) (modulations_fit p.modulations lfo_sensitivity) refl refl (sym (number_of p) ∙ e)
  where
    go : (a b : Bool) → patch_fits p ≡ a → modulations_fit p.modulations lfo_sensitivity ≡ b
        → ◌≡◌ {A = ℕ} (cond (a && b) 0 6) 0 → identity_answered p ≡ true
    go true true f g h = (identity_goes p f g).all
    go true false f g h = let z : ⊥ = omega arith in absurd z
    go false b f g h = let z : ⊥ = omega arith in absurd z
