-- An envelope that goes on by a rate, from where it stands afterwards. Assumes nothing.
use mathlib.Core.Path.{◌≡◌, ap}
use mathlib.Core.Bool.{Bool, false}
use Prim.Native.Nat.{◌≤◌}
use lib.Ieee.{Float}
use Rattle.envelope_inner.specs.declared.Envelope.{Envelope}
use Rattle.envelope_inner.specs.declared.Position.{Position}
use Rattle.envelope_inner.specs.Envelope.{level_value, value_at, current_value, standing, rendered}
use Rattle.envelope_inner.proofs.Laws.{rendered_stage}
use Rattle.voice_levels.specs.declared.Timing.{Timing}
use Rattle.voice_levels.specs.declared.Followed.{Followed}
use Rattle.voice_levels.specs.Levels.{followed, taken}

module _ (t : Timing) (reshape : Bool) (rate : Float) (e : Envelope) {q : Position}
    (eq : standing e q ≡ rendered reshape t.gate rate t.ad_scale t.release_scale e) where
  -- it stands in a stage that there is
  pub place_stage : e.stage ≤ 3 → q.stage ≤ 3
  place_stage h =
      rw (ap (λ (r : Envelope). r.stage) eq) (rendered_stage reshape t.gate rate t.ad_scale t.release_scale e h)

  -- and the value of its levels there is its value now
  pub place_on : {v : Float} → t.sustain ≡ false → v ≡ level_value reshape e.level q.stage q.phase q.start
      → taken e (record { position = q; value = v }) ≡ followed t reshape rate e
  unfolding followed current_value value_at
  place_on s ev = rw (s, ev) (ap (λ (r : Envelope). the_followed r) eq)
    where
      the_followed : Envelope → Followed
      the_followed r = record { envelope = r; value = current_value reshape r }
