-- Where an envelope stands after a gate, by the code's one test of gate and stage, and after a call. Assumes nothing.
use mathlib.Core.Path.{◌≡◌, refl, sym, ap, ◌∙◌}
use mathlib.Core.Bool.{Bool, true, false, not, cond, beq}
use Prim.Native.Nat.{ℕ, ◌≤◌}
use lib.Dec.{eqb}
use lib.Ieee.{Float}
use Rattle.numbers.specs.F32.{decimal}
use Rattle.envelope_inner.specs.declared.Envelope.{Envelope}
use Rattle.envelope_inner.specs.declared.Position.{Position}
use Rattle.envelope_inner.specs.Envelope.{level_value, value_at, current_value, standing, gated, stepped_phase}
use Rattle.envelope_inner.specs.Envelope.{advanced, rendered}
use Rattle.envelope_inner.proofs.Laws.{gated_stage}

like : (a b : Bool) → beq a b ≡ true → b ≡ a
like true true t = refl
like true false t = t
like false true t = sym t
like false false t = refl

unlike : (a b : Bool) → beq a b ≡ false → b ≡ not a
unlike true true t = t
unlike true false t = refl
unlike false true t = refl
unlike false false t = sym t

module _ (reshape gate : Bool) (e : Envelope) (q : Position) where
  -- a gate that opens or closes starts a stage
  pub gate_jumps : {stage : ℕ} {start : Float} → beq gate (eqb q.stage 3) ≡ true → stage ≡ cond gate 0 3
      → start ≡ level_value reshape e.level q.stage q.phase q.start
      → standing e (record { stage = stage; phase = decimal 0 0; start = start }) ≡ gated reshape gate (standing e q)
  unfolding gated current_value value_at
  gate_jumps {stage} {start} t es ev = go gate (like gate (eqb q.stage 3) t) es
    where
      go : (g : Bool) → eqb q.stage 3 ≡ g → stage ≡ cond g 0 3
          → standing e (record { stage = stage; phase = decimal 0 0; start = start }) ≡ gated reshape g (standing e q)
      go true b s = rw (b, s, ev)
      go false b s = rw (b, s, ev)

  -- any other leaves the envelope where it stands
  pub gate_stays : beq gate (eqb q.stage 3) ≡ false → standing e q ≡ gated reshape gate (standing e q)
  unfolding gated
  gate_stays t = go gate (unlike gate (eqb q.stage 3) t)
    where
      go : (g : Bool) → eqb q.stage 3 ≡ not g → standing e q ≡ gated reshape g (standing e q)
      go true b = rw b
      go false b = rw b

module _ (reshape gate : Bool) (rate ad_scale release_scale : Float) (e : Envelope) {f : Position}
    (ef : standing e f ≡ gated reshape gate e) where
  -- the gate's stage is one that there is
  pub followed_stage : e.stage ≤ 3 → f.stage ≤ 3
  followed_stage h = rw (ap (λ (g : Envelope). g.stage) ef) (gated_stage reshape gate e h)

  -- the gate, the step and the advance are a call
  pub rendered_of : {phase : Float} {r : Position} → phase ≡ stepped_phase rate ad_scale release_scale (standing e f)
      → standing e r ≡ advanced phase (standing e f)
      → standing e r ≡ rendered reshape gate rate ad_scale release_scale e
  unfolding rendered
  rendered_of ep er =
      er ∙ ap (λ (p : Float). advanced p (standing e f)) ep
      ∙ ap (λ (g : Envelope). advanced (stepped_phase rate ad_scale release_scale g) g) ef
