-- Every entry hands back a state that 9 refuses exactly if it was given one. Assumes nothing.
use mathlib.Core.Path.{◌≡◌, refl}
use mathlib.Core.Bool.{Bool, true, false}
use mathlib.Core.List.{List}
use Prim.Native.Nat.{ℕ}
use borrow.Author.Tests.{leb-true, le-leb}
use lib.Ieee.{Float}
use Rattle.envelope_inner.specs.declared.Envelope.{Envelope}
use Rattle.envelope_inner.specs.Set.{operator_set, pitch_set}
use Rattle.envelope_inner.proofs.Laws.{rendered_stage}
use Rattle.refusals.specs.Answer.{state_after}
use Rattle.envelope.specs.Answers.{envelope_after, state_fits, operator_fits, pitch_fits}
use Rattle.envelope.specs.Answers.{set_answer, operator_set_answer, pitch_set_answer, render_answer}

module _ (reshape gate : Bool) (rate ad_scale release_scale : Float) (e : Envelope) where
  pub render_keeps_9
      : state_fits (envelope_after (render_answer reshape gate rate ad_scale release_scale e)) ≡ state_fits e
  unfolding render_answer
  render_keeps_9 = go (state_fits e) refl
    where
      go : (b : Bool) → state_fits e ≡ b
          → state_fits (envelope_after (render_answer reshape gate rate ad_scale release_scale e)) ≡ state_fits e
      go true h = rw h (le-leb _ _ (rendered_stage reshape gate rate ad_scale release_scale e (leb-true e.stage 3 h)))
      go false h = rw h h

-- setting leaves the stage, refused or not
pub set_keeps_9 : (e : Envelope) (increment level : List Float)
    → (state_after (set_answer e increment level)).stage ≡ e.stage
unfolding set_answer
set_keeps_9 e increment level = go (state_fits e) refl
  where
    go : (b : Bool) → state_fits e ≡ b → (state_after (set_answer e increment level)).stage ≡ e.stage
    go true h = rw h
    go false h = rw h

module _ (e : Envelope) (rate level : List ℕ) (global_level : ℕ) where
  pub operator_set_keeps_9 : (state_after (operator_set_answer e rate level global_level)).stage ≡ e.stage
  unfolding operator_set_answer operator_set
  operator_set_keeps_9 = go (state_fits e) (operator_fits rate level global_level) refl refl
    where
      go : (b f : Bool) → state_fits e ≡ b → operator_fits rate level global_level ≡ f
          → (state_after (operator_set_answer e rate level global_level)).stage ≡ e.stage
      go true true h k = rw (h, k)
      go true false h k = rw (h, k)
      go false f h k = rw h

  pub pitch_set_keeps_9 : (state_after (pitch_set_answer e rate level)).stage ≡ e.stage
  unfolding pitch_set_answer pitch_set
  pitch_set_keeps_9 = go (state_fits e) (pitch_fits rate level) refl refl
    where
      go : (b f : Bool) → state_fits e ≡ b → pitch_fits rate level ≡ f
          → (state_after (pitch_set_answer e rate level)).stage ≡ e.stage
      go true true h k = rw (h, k)
      go true false h k = rw (h, k)
      go false f h k = rw h
