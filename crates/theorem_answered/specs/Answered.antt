-- Whether the calls on the way to an identifier are answered and none is refused: along the definitions of `identity`
-- (specs/Identity), in their order, with the same arguments and from the same states. Definitions only.
use Rattle.std.specs.Prelude.{ℕ, zero, suc, Bool, true, false, ◌&&◌, Float, Result, Ok, Err}
use Rattle.std.specs.Result.{is_ok, result_unwrap_or}
use Rattle.numbers.specs.F32.{decimal}
use Rattle.refusals.specs.declared.Refusal.{Refusal}
use Rattle.refusals.specs.Answer.{state_after}
use Rattle.patch.specs.declared.Patch.{Patch}
use Rattle.algorithms_opcodes.specs.Opcodes.{six_operators}
use Rattle.lfo.specs.Answers as lfo
use Rattle.voice.specs.declared.Voice.{Voice}
use Rattle.voice.specs.Answers as voice
use Rattle.voice_render.specs.Answers.{render_answer}
use Rattle.identity.specs.declared.Ready.{Ready}
use Rattle.identity.specs.declared.Playing.{Playing}
use Rattle.identity.specs.declared.Tables.{Tables}
use Rattle.identity.specs.Hash.{hash_basis}
use Rattle.identity.specs.Identity.{readied, built_in, parameters_of, silence, set_up_for, block_played}
use Rattle.identity.specs.Identity.{blocks_played, note_played}

-- whether an answer is there, and what follows it is answered
abbrev pub goes_on : {A : Type 0} → Result A Refusal → (A → Bool) → Bool
goes_on (Ok x) test = test x
goes_on (Err e) test = false

-- the five calls of `readied`
unfoldable pub ready_answered : Patch → Bool
ready_answered p =
    let made = voice.init_answer 6 (decimal 48000 0) in
    let v = voice.set_patch_answer (state_after made) p six_operators in
    let started = lfo.init_answer (decimal 48000 0) in
    let l = lfo.set_answer (state_after started) p.modulations in
    is_ok made && is_ok v && is_ok started && is_ok l && is_ok (lfo.reset_answer (state_after l))

module _ (tables : Tables) where
  -- the blank block of `set_up_for`
  unfoldable pub set_up_answered : Voice → Float → Bool
  set_up_answered v note =
      let p = parameters_of note false (decimal 0 0) (decimal 0 0) in
      is_ok (render_answer tables.pairs tables.high tables.low v p silence).answer

  -- the four calls of `block_played`: the LFO's step, its two readings and the voice's block
  unfoldable pub block_answered : Float → Bool → Playing → Bool
  block_answered note gate s =
      let m = lfo.step_answer tables.lut s.motion (decimal 64 0) in
      let pitch = lfo.pitch_mod_answer (state_after m).lfo in
      let amp = lfo.amp_mod_answer (state_after m).lfo in
      let p = parameters_of note gate (result_unwrap_or pitch (decimal 0 0)) (result_unwrap_or amp (decimal 0 0)) in
      let a = render_answer tables.pairs tables.high tables.low s.voice p silence in
      is_ok m && is_ok pitch && is_ok amp && is_ok a.answer

  -- so many blocks, one after the other
  unfoldable pub blocks_answered : Float → Bool → ℕ → Playing → Bool
  blocks_answered note gate zero s = true
  blocks_answered note gate (suc n) s =
      block_answered note gate s && goes_on (block_played tables note gate s) (blocks_answered note gate n)

  -- the blank block, the 128 blocks with the gate on and the 64 with it off
  unfoldable pub note_answered : Ready → Float → ℕ → Bool
  note_answered r note hash =
      set_up_answered r.voice note
      && goes_on (set_up_for tables r.voice note) (λ v.
      let s : Playing = record { voice = v; motion = record { lfo = r.lfo; state = 0x21 }; hash = hash } in
      blocks_answered note true 128 s
      && goes_on (blocks_played tables note true 128 s) (blocks_answered note false 64))

  -- the notes 36, 60 and 84, each with the hash that the one before left
  unfoldable pub notes_answered : Ready → Bool
  notes_answered r =
      note_answered r (decimal 36 0) hash_basis
      && goes_on (note_played tables r (decimal 36 0) hash_basis) (λ one.
      note_answered r (decimal 60 0) one
      && goes_on (note_played tables r (decimal 60 0) one) (λ two. note_answered r (decimal 84 0) two))

-- every call of `identity_of`, for a patch that has an identifier
unfoldable pub identity_answered : Patch → Bool
identity_answered p = ready_answered p && goes_on (readied p) (notes_answered built_in)
