-- What an envelope keeps: a render goes to a stage that there is and moves nothing but stage, phase and start, and
-- setting changes nothing but increments and levels. Assumes nothing.
use mathlib.Core.Path.{◌≡◌, refl, ◌∙◌, ap}
use mathlib.Core.Bool.{Bool, true, false, cond}
use mathlib.Core.List.{List}
use Prim.Native.Nat.{ℕ, ◌+◌, ◌≤◌}
use native.Mathlib.Omega.{arith}
use borrow.Author.Tests.{ltb-true}
use lib.Dec.{eqb, ltb}
use lib.Ieee.{Float, le}
use Rattle.numbers.specs.F32.{decimal}
use Rattle.envelope_inner.specs.declared.Envelope.{Envelope}
use Rattle.envelope_inner.specs.Envelope.{initialised, previous_level, moved_to, jumped_to, gated, stepped_phase}
use Rattle.envelope_inner.specs.Envelope.{advanced, rendered}
use Rattle.envelope_inner.specs.Set.{set_to, operator_set, pitch_set}

-- ---- stages

pub initialised_stage : (scale : Float) → (initialised scale).stage ≤ 3
unfolding initialised
initialised_stage scale = omega arith

-- a gate's jump goes to a stage that there is
pub gated_stage : (reshape gate : Bool) (e : Envelope) → e.stage ≤ 3 → (gated reshape gate e).stage ≤ 3
unfolding gated
gated_stage reshape true e h = go (eqb e.stage 3)
  where
    go : (b : Bool) → (cond b (jumped_to reshape e 0) e).stage ≤ 3
    go true = omega arith
    go false = h
gated_stage reshape false e h = go (eqb e.stage 3)
  where
    go : (b : Bool) → (cond b e (jumped_to reshape e 3)).stage ≤ 3
    go true = h
    go false = omega arith

pub gated_moves : (reshape gate : Bool) (e : Envelope)
    → gated reshape gate e
    ≡ moved_to e (gated reshape gate e).stage (gated reshape gate e).phase (gated reshape gate e).start
unfolding gated
gated_moves reshape true e = go (eqb e.stage 3)
  where
    go : (b : Bool) → let g = cond b (jumped_to reshape e 0) e in g ≡ moved_to e g.stage g.phase g.start
    go true = refl
    go false = refl
gated_moves reshape false e = go (eqb e.stage 3)
  where
    go : (b : Bool) → let g = cond b e (jumped_to reshape e 3) in g ≡ moved_to e g.stage g.phase g.start
    go true = refl
    go false = refl

module _ (phase : Float) (e : Envelope) where
  -- an advance under its two tests
  abbrev advance_of : Bool → Bool → Envelope
  advance_of p b =
      cond p
      (cond b
      (moved_to e (e.stage + 1) (decimal 0 0) previous_level)
      (moved_to e e.stage (decimal 1 0) previous_level))
      (moved_to e e.stage phase e.start)

  -- it goes to a stage that there is, too
  pub advanced_stage : e.stage ≤ 3 → (advanced phase e).stage ≤ 3
  unfolding advanced
  advanced_stage h = go (le (decimal 1 0) phase) (ltb e.stage 2) refl
    where
      go : (p b : Bool) → ltb e.stage 2 ≡ b → (advance_of p b).stage ≤ 3
      go true true l = let z = ltb-true e.stage 2 l in omega arith
      go true false l = h
      go false b l = h

  -- nothing but stage, phase and start moves
  pub advanced_moves : advanced phase e
      ≡ moved_to e (advanced phase e).stage (advanced phase e).phase (advanced phase e).start
  unfolding advanced
  advanced_moves = go (le (decimal 1 0) phase) (ltb e.stage 2)
    where
      go : (p b : Bool)
          → advance_of p b ≡ moved_to e (advance_of p b).stage (advance_of p b).phase (advance_of p b).start
      go true true = refl
      go true false = refl
      go false b = refl

  -- it is one stage at most
  pub advanced_by_one : (advanced phase e).stage ≤ e.stage + 1
  unfolding advanced
  advanced_by_one = go (le (decimal 1 0) phase) (ltb e.stage 2)
    where
      go : (p b : Bool) → (advance_of p b).stage ≤ e.stage + 1
      go true true = omega arith
      go true false = omega arith
      go false b = omega arith

  -- and the phase left over is dropped
  pub left_over_dropped : le (decimal 1 0) phase ≡ true → ltb e.stage 2 ≡ true
      → advanced phase e ≡ moved_to e (e.stage + 1) (decimal 0 0) previous_level
  unfolding advanced
  left_over_dropped p b = rw (p, b)

module _ (reshape gate : Bool) (rate ad_scale release_scale : Float) (e : Envelope) where
  -- a render of a state that is not refused gives one that is not refused
  pub rendered_stage : e.stage ≤ 3 → (rendered reshape gate rate ad_scale release_scale e).stage ≤ 3
  unfolding rendered
  rendered_stage h =
      let g = gated reshape gate e in
      advanced_stage (stepped_phase rate ad_scale release_scale g) g (gated_stage reshape gate e h)

  -- and moves nothing but stage, phase and start
  pub rendered_moves :
      let r = rendered reshape gate rate ad_scale release_scale e in
      r ≡ moved_to e r.stage r.phase r.start
  unfolding rendered
  rendered_moves =
      let g = gated reshape gate e in
      let r = advanced (stepped_phase rate ad_scale release_scale g) g in
      advanced_moves (stepped_phase rate ad_scale release_scale g) g
      ∙ ap (λ (h : Envelope). moved_to h r.stage r.phase r.start) (gated_moves reshape gate e)

-- ---- setting

module _ (e : Envelope) (rate level : List ℕ) (global_level : ℕ) where
  -- it changes nothing but increments and levels
  pub operator_set_sets :
      let s = operator_set e rate level global_level in
      s ≡ set_to e s.increment s.level
  unfolding operator_set
  operator_set_sets = refl

  pub pitch_set_sets :
      let s = pitch_set e rate level in
      s ≡ set_to e s.increment s.level
  unfolding pitch_set
  pitch_set_sets = refl
