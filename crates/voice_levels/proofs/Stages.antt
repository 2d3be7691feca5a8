-- Envelopes that have no stage above 3: each of them, and that no block takes one there. Assumes nothing.
use mathlib.Core.Path.{◌≡◌, refl}
use mathlib.Core.Bool.{Bool, true, false}
use mathlib.Core.List.{List, [], ◌∷◌}
use Prim.Native.Nat.{ℕ, zero, suc, ◌≤◌}
use native.Mathlib.Omega.{arith}
use lib.Dec.{T, le→leb, leb→le}
use lib.ListN.{get_or, set}
use lib.Ieee.{Float, nan}
use lib.Ieee.Fits.{and_l, and_r, and_i}
use Rattle.envelope_inner.specs.declared.Envelope.{Envelope}
use Rattle.envelope_inner.specs.Envelope.{is_stage, all_stages}
use Rattle.envelope_inner.proofs.Laws.{rendered_stage}
use Rattle.patch.specs.declared.Operator.{Operator}
use Rattle.patch.specs.Form.{operator_at}
use Rattle.dx_units_inner.specs.declared.Ratio.{Ratio}
use Rattle.voice_setup.specs.Setup.{envelope_at}
use Rattle.voice_levels.specs.declared.Timing.{Timing}
use Rattle.voice_levels.specs.declared.Scene.{Scene}
use Rattle.voice_levels.specs.Levels.{followed, leveled, put_at, no_ratio, leveled_to}

-- an envelope of those that have no stage above 3
pub stage_at_fits : (es : List Envelope) (k : ℕ) → T (all_stages es) → (envelope_at es k).stage ≤ 3
unfolding all_stages
stage_at_fits [] k t = omega arith
stage_at_fits (e ∷ es) zero t = leb→le e.stage 3 (and_l (is_stage e.stage) (all_stages es) t)
stage_at_fits (e ∷ es) (suc k) t = stage_at_fits es k (and_r (is_stage e.stage) (all_stages es) t)

pub followed_stage : (t : Timing) (reshape : Bool) (rate : Float) (e : Envelope) → e.stage ≤ 3
    → (followed t reshape rate e).envelope.stage ≤ 3
unfolding followed
followed_stage t reshape rate e h = go t.sustain refl
  where
    go : (b : Bool) → t.sustain ≡ b → (followed t reshape rate e).envelope.stage ≤ 3
    go true k = rw k h
    go false k = rw k (rendered_stage reshape t.gate rate t.ad_scale t.release_scale e h)

pub leveled_stage : (g : Scene) (o : Operator) (ratio : Ratio) (headroom : Float) (opcode : ℕ) (e : Envelope)
    → e.stage ≤ 3
    → (leveled g o ratio headroom opcode e).envelope.stage ≤ 3
unfolding leveled
leveled_stage g o ratio headroom opcode e h = followed_stage g.timing true _ e h

pub set_keeps_stages : (es : List Envelope) (k : ℕ) (e : Envelope) → T (all_stages es) → e.stage ≤ 3
    → T (all_stages (set es k e))
unfolding all_stages
set_keeps_stages [] k e t h = t
set_keeps_stages (x ∷ es) zero e t h =
    and_i (is_stage e.stage) (all_stages es) (le→leb e.stage 3 h) (and_r (is_stage x.stage) (all_stages es) t)
set_keeps_stages (x ∷ es) (suc k) e t h =
    and_i (is_stage x.stage) (all_stages (set es k e)) (and_l (is_stage x.stage) (all_stages es) t)
    (set_keeps_stages es k e (and_r (is_stage x.stage) (all_stages es) t) h)

module _ (g : Scene) (ops : List Operator) (ratios : List Ratio) (headrooms : List Float) (row : List ℕ)
    (es : List Envelope) where
  -- 9 does not refuse what a block makes of envelopes that it did not refuse
  pub leveled_keeps_stages : (k : ℕ) → T (all_stages es)
      → T (all_stages (leveled_to g ops ratios headrooms row es k).operator_envelope)
  unfolding leveled_to put_at
  leveled_keeps_stages zero t = t
  leveled_keeps_stages (suc k) t =
      set_keeps_stages (leveled_to g ops ratios headrooms row es k).operator_envelope k _ (leveled_keeps_stages k t)
      (leveled_stage g (operator_at ops k) (get_or ratios k no_ratio) (get_or headrooms k nan) (get_or row k 0)
      (envelope_at es k) (stage_at_fits es k t))
