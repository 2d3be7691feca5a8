-- The switch off is document 01's block; the switch on is the switch off at the shifted note; and number 7 of a voice
-- whose switch is on. Assumes nothing, of the voice, the tables or the block.
use mathlib.Core.Path.{◌≡◌, refl, sym, ap, subst, ◌∙◌}
use mathlib.Core.Bool.{Bool, true, false, cond, ◌&&◌, and-true}
use mathlib.Core.List.{List}
use native.Mathlib.Omega.{arith}
use lib.Dec.{T}
use lib.ListN.{length}
use lib.Ieee.{Float}
use Rattle.refusals.specs.Answer.{number_told}
use Rattle.patch_limits.specs.Ranges.{note_fits}
use Rattle.voice_note.specs.Note.{played_note}
use Rattle.envelope_inner.specs.declared.Envelope.{Envelope}
use Rattle.voice_setup.specs.declared.Setup.{Setup}
use Rattle.voice.specs.declared.Voice.{Voice}
use Rattle.voice.specs.Answers.{state_fits}
use Rattle.voice_render.specs.declared.VoiceParameters.{VoiceParameters}
use Rattle.voice_render.specs.Setup.{with_setup, set_up}
use Rattle.voice_render.specs.Block.{played_by, note_on, struck, begun, entering, after, levels_for, marks_for, played}
use Rattle.voice_render.specs.Block.{sounded}
use Rattle.voice_render.specs.Answers.{block_fits, parameters_fit, parameters_fit_for, Answered, blank, sounding}
use Rattle.voice_render.specs.Answers.{render_answer}
use Rattle.voice_render.proofs.Alike.{answer_by}
use Rattle.voice_render.proofs.Switch.{as_given, fits_as_given, set_up_switch}
use Rattle.theorem_transpose.specs.Transpose.{plain_answer, turned, answer_turned, shifted_note, shifted}

and-false : (b : Bool) → (b && false) ≡ false
and-false true = refl
and-false false = refl

-- ---- off, or without a patch

module _ (pairs high low : List Float) (v : Voice) (p : VoiceParameters) (block : List Float) where
  -- a voice that does not transpose
  plain : (v.transposing && v.has_patch) ≡ false
      → render_answer pairs high low v p block ≡ plain_answer pairs high low v p block
  unfolding render_answer plain_answer
  plain e = rw (fits_as_given v p e, as_given v p e) refl

  pub off_is_plain : v.transposing ≡ false
      → render_answer pairs high low v p block ≡ plain_answer pairs high low v p block
  off_is_plain e = plain (ap (λ (b : Bool). b && v.has_patch) e)

  pub no_patch_is_plain : v.has_patch ≡ false
      → render_answer pairs high low v p block ≡ plain_answer pairs high low v p block
  no_patch_is_plain e = plain (ap (λ (b : Bool). v.transposing && b) e ∙ and-false v.transposing)

-- ---- on

module _ (v : Voice) (p : VoiceParameters) (on : v.transposing ≡ true) (has : v.has_patch ≡ true) where
  -- what is played is the shifted note
  pub plays_shifted : played_by v p ≡ shifted v p
  unfolding played_by played_note shifted shifted_note
  plays_shifted = rw (on, has) refl

  pub fits_shifted : parameters_fit_for v p ≡ (parameters_fit p && note_fits (shifted_note v p))
  unfolding parameters_fit_for shifted
  fits_shifted = rw plays_shifted refl

-- a note in the place of another
exchanged : (n m a b c d e : Bool) → (n && a && b && c && d && e && m) ≡ true → (m && a && b && c && d && e) ≡ true
exchanged true true a b c d e h = sym (and-true _) ∙ h
exchanged true false a b c d e h = absurd (subst T (sym h ∙ and-false (a && b && c && d && e)) tt)
exchanged false m a b c d e h = absurd (subst T (sym h) tt)

still_fits : (v : Voice) (p : VoiceParameters) → (parameters_fit p && note_fits (shifted_note v p)) ≡ true
    → parameters_fit (shifted v p) ≡ true
unfolding parameters_fit shifted
still_fits v p = exchanged (note_fits p.note) (note_fits (shifted_note v p)) _ _ _ _ _

-- ---- a voice turned

stays_on : (w : Voice) → w.transposing ≡ true → w ≡ turned w true
unfolding turned
stays_on w e = ap (turned w) e

state_turned : (v : Voice) (on : Bool) → state_fits (turned v on) ≡ state_fits v
unfolding state_fits turned
state_turned v on = refl

module _ (pairs high low : List Float) (v : Voice) (on : Bool) where
  set_up_turned : set_up high low (turned v on) ≡ turned (set_up high low v) on
  unfolding set_up with_setup turned
  set_up_turned = go _ _ v.has_patch
    where
      go : (e : Envelope) (s : Setup) (b : Bool)
          → cond b (with_setup (turned v on) e s) (turned v on) ≡ turned (cond b (with_setup v e s) v) on
      go e s true = refl
      go e s false = refl

  sounded_turned : (q : VoiceParameters) (block : List Float)
      → sounding (sounded pairs high low (turned v on) q block)
      ≡ answer_turned (sounding (sounded pairs high low v q block)) on
  unfolding sounded after played levels_for marks_for begun struck note_on entering turned
  sounded_turned q block = refl

-- ---- the switch on is the switch off at the shifted note

module _ (pairs high low : List Float) (v : Voice) (p : VoiceParameters) (block : List Float)
    (on : v.transposing ≡ true) (has : v.has_patch ≡ true) where
  abbrev q : VoiceParameters
  q = shifted v p

  -- the answer of the voice, and of the voice with its switch off, for each way that their tests go
  abbrev lit : Bool → Bool → Bool → Bool → Answered
  lit = answer_by pairs high low v q block

  abbrev unlit : Bool → Bool → Bool → Bool → Answered
  unlit = answer_by pairs high low (turned v false) q block

  same_blank : blank (set_up high low v) block
      ≡ answer_turned (blank (set_up high low (turned v false)) block) true
  unfolding turned
  same_blank =
      rw (set_up_turned pairs high low v false)
      (ap (λ (w : Voice). blank w block) (stays_on (set_up high low v) (set_up_switch pairs high low v ∙ on)))

  sounded_on : (sounded pairs high low v q block).voice.transposing ≡ true
  unfolding sounded after
  sounded_on = on

  same_sound : sounding (sounded pairs high low v q block)
      ≡ answer_turned (sounding (sounded pairs high low (turned v false) q block)) true
  unfolding turned
  same_sound =
      let s = sounded pairs high low v q block in
      ap (λ (w : Voice). sounding (record { voice = w; marks = s.marks; block = s.block }))
      (stays_on s.voice sounded_on)
      ∙ ap (λ (a : Answered). answer_turned a true) (sym (sounded_turned pairs high low v false q block))

  same : (state size fit dirty other : Bool) → (fit ≡ true → other ≡ true)
      → number_told (lit state size fit dirty).answer ≡ 0
      → lit state size fit dirty ≡ answer_turned (unlit state size other dirty) true
  same true true true true other f n = rw (f refl) same_blank
  same true true true false other f n = rw (f refl) same_sound
  same true true false dirty other f n = absurd (omega arith)
  same true false fit dirty other f n = absurd (omega arith)
  same false size fit dirty other f n = absurd (omega arith)

  abbrev fit : Bool
  fit = parameters_fit p && note_fits (shifted_note v p)

  lit_answer : render_answer pairs high low v p block ≡ lit (state_fits v) (block_fits (length block)) fit v.dirty
  unfolding render_answer
  lit_answer = rw (fits_shifted v p on has, plays_shifted v p on has) refl

  unlit_answer : render_answer pairs high low (turned v false) q block
      ≡ unlit (state_fits v) (block_fits (length block)) (parameters_fit q) v.dirty
  unfolding plain_answer turned
  unlit_answer = off_is_plain pairs high low (turned v false) q block refl ∙ rw (state_turned v false) refl

  -- an accepted block; the other one is accepted then too
  pub on_is_off_shifted : number_told (render_answer pairs high low v p block).answer ≡ 0
      → render_answer pairs high low v p block
      ≡ answer_turned (render_answer pairs high low (turned v false) (shifted v p) block) true
  on_is_off_shifted n =
      lit_answer
      ∙ same (state_fits v) (block_fits (length block)) fit v.dirty (parameters_fit q) (still_fits v p)
      (ap (λ (a : Answered). number_told a.answer) (sym lit_answer) ∙ n)
      ∙ ap (λ (a : Answered). answer_turned a true) (sym unlit_answer)

  -- 7 is also given where the shifted note lies outside 0 to 127, in blank blocks too
  pub number_on : state_fits v ≡ true → block_fits (length block) ≡ true
      → number_told (render_answer pairs high low v p block).answer
      ≡ cond (parameters_fit p && note_fits (shifted_note v p)) 0 7
  unfolding render_answer
  number_on state size = rw (state, size, fits_shifted v p on has) (go fit v.dirty)
    where
      go : (fit dirty : Bool)
          → number_told (answer_by pairs high low v (played_by v p) block true true fit dirty).answer ≡ cond fit 0 7
      go true true = refl
      go true false = refl
      go false dirty = refl
