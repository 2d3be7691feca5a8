-- Demand 3 for one block: what was left in the scratch is not heard. Two blocks of one length with equal output before
-- them are heard alike, refused and blank ones included. Assumes nothing, of the voice or of the tables.
use mathlib.Core.Path.{◌≡◌, refl, sym, ap, subst, ◌∙◌}
use mathlib.Core.Bool.{Bool, true, false, cond}
use mathlib.Core.List.{List}
use Prim.Native.Nat.{ℕ, ◌/◌}
use lib.Dec.{T}
use lib.ListN.{length, take}
use lib.Ieee.{Float}
use Rattle.algorithms.proofs.Accepted.{SafePlan, planned_safe}
use Rattle.std.specs.Prelude.{Result, Ok}
use Rattle.refusals.specs.declared.Refusal.TheVariants.{Parameter, BlockLength, ForeignState}
use Rattle.refusals.specs.declared.Refused.{Refused}
use Rattle.dx_units_step.specs.declared.Mark.{Mark}
use Rattle.voice_block.specs.declared.Operators.{Operators}
use Rattle.voice_block.proofs.Same.{same_sound}
use Rattle.voice_block.proofs.Lengths.{ran_length}
use Rattle.voice.specs.declared.Voice.{Voice}
use Rattle.voice.specs.Answers.{state_fits}
use Rattle.voice.proofs.States.{stored, clean_has}
use Rattle.voice_render.specs.declared.VoiceParameters.{VoiceParameters}
use Rattle.voice_render.specs.Setup.{set_up}
use Rattle.voice_render.specs.Block.{played_by, begun, entering, after, levels_for, marks_for, played, sounded}
use Rattle.voice_render.specs.declared.Rendered.{Rendered}
use Rattle.voice_render.specs.Answers.{block_fits, parameters_fit_for, Answered, answered_by, block_refused, blank}
use Rattle.voice_render.specs.Answers.{sounding, render_answer}
use Rattle.voice_render.specs.Heard.{output, heard_of}
use Rattle.voice_render.proofs.Blocks.{block_whole}

-- answers to two blocks with the same output
same_block : (a : Result Rendered (Refused Voice)) {one other : List Float} → one ≡ other
    → answered_by a one ≡ answered_by a other
same_block a f = rw f

same_sounding : (marks : List Mark) {v w : Voice} {one other : List Float} → v ≡ w → one ≡ other
    → answered_by (Ok (record { marks = marks; voice = v })) one
    ≡ answered_by (Ok (record { marks = marks; voice = w })) other
same_sounding marks e f = rw (e, f)

-- an accepted block's output is its first quarter
output_fits : (n : ℕ) (block : List Float) → length block ≡ n → block_fits n ≡ true
    → output block ≡ take (n / 4) block
unfolding output
output_fits n block e h = rw (e, h)

-- a sounding block is as long afterwards
pub sounded_length : (pairs high low : List Float) (v : Voice) (p : VoiceParameters) (block : List Float)
    → block_fits (length block) ≡ true → length (sounded pairs high low v p block).block ≡ length block
unfolding sounded played
sounded_length pairs high low v p block size =
    ran_length pairs v.plan _ _ v.patch.feedback _ block (block_whole (length block) (subst T (sym size) tt))

-- a block's answer, for each way that its four tests go, where p is what it plays
abbrev pub answer_by : List Float → List Float → List Float → Voice → VoiceParameters → List Float
    → Bool → Bool → Bool → Bool → Answered
answer_by pairs high low v p block state size fit dirty =
    cond state
    (cond size
    (cond fit
    (cond dirty (blank (set_up high low v) block) (sounding (sounded pairs high low v p block)))
    (block_refused Parameter v block))
    (block_refused BlockLength v block))
    (block_refused ForeignState v block)

-- any block is as long afterwards
pub rendered_length : (pairs high low : List Float) (v : Voice) (p : VoiceParameters) (block : List Float)
    → length (render_answer pairs high low v p block).block ≡ length block
unfolding render_answer
rendered_length pairs high low v p block =
    go (state_fits v) (block_fits (length block)) (parameters_fit_for v p) v.dirty refl
  where
    go : (state size fit dirty : Bool) → block_fits (length block) ≡ size
        → length (answer_by pairs high low v (played_by v p) block state size fit dirty).block ≡ length block
    go true true true true s = refl
    go true true true false s = sounded_length pairs high low v (played_by v p) block s
    go true true false dirty s = refl
    go true false fit dirty s = refl
    go false size fit dirty s = refl

module _ (pairs high low : List Float) (v : Voice) (p : VoiceParameters) (one other : List Float)
    (l : length one ≡ length other) (o : output one ≡ output other) where
  -- a sounding block
  pub sounded_alike : state_fits v ≡ true → block_fits (length one) ≡ true → v.dirty ≡ false
      → heard_of (sounding (sounded pairs high low v p one)) ≡ heard_of (sounding (sounded pairs high low v p other))
  unfolding sounded played
  sounded_alike fits size clean =
      let n = length one in
      let t : T (state_fits v) = subst T (sym fits) tt in
      let s = stored v t (clean_has v t clean) in
      let safe : SafePlan v.plan = planned_safe v.operators v.row v.plan s.accepted in
      let levels = levels_for pairs high low v p (n / 4) in
      let firsts = sym (output_fits n one refl size) ∙ o ∙ output_fits n other (sym l) size in
      let before : Operators = record { operator = entering v p; feedback_state = v.feedback_state } in
      let whole = block_whole n (subst T (sym size) tt) in
      let same = same_sound pairs v.plan levels.steps levels.amplitudes v.patch.feedback before one other
      safe l firsts in
      let long = ran_length pairs v.plan levels.steps levels.amplitudes v.patch.feedback before one
      whole in
      let long' = ran_length pairs v.plan levels.steps levels.amplitudes v.patch.feedback before other
      (rw (← l) whole) in
      rw (← l) (same_sounding (marks_for pairs high low v p (n / 4))
      (ap (after v p (begun high low v p (n / 4)) levels) same.0)
      (output_fits n _ long size ∙ same.1 ∙ sym (output_fits n _ (long' ∙ sym l) size)))

  -- any block of what is played: refused or blank, it stays as it was
  answered_alike : (state size fit dirty : Bool) → state_fits v ≡ state → block_fits (length one) ≡ size
      → v.dirty ≡ dirty
      → heard_of (answer_by pairs high low v p one state size fit dirty)
      ≡ heard_of (answer_by pairs high low v p other state size fit dirty)
  answered_alike true true true true f s d = same_block _ o
  answered_alike true true true false f s d = sounded_alike f s d
  answered_alike true true false dirty f s d = same_block _ o
  answered_alike true false fit dirty f s d = same_block _ o
  answered_alike false size fit dirty f s d = same_block _ o

-- any block, its switch on or off
pub rendered_alike : (pairs high low : List Float) (v : Voice) (p : VoiceParameters) (one other : List Float)
    → length one ≡ length other → output one ≡ output other
    → heard_of (render_answer pairs high low v p one) ≡ heard_of (render_answer pairs high low v p other)
unfolding render_answer
rendered_alike pairs high low v p one other l o =
    rw (← l) (answered_alike pairs high low v (played_by v p) one other l o (state_fits v) (block_fits (length one))
    (parameters_fit_for v p) v.dirty refl refl refl)
