-- The answers of many calls, put together, over plain variables. Assumes nothing.
use mathlib.Core.Path.{◌≡◌, ap, ◌∙◌}
use mathlib.Core.Bool.{true}
use mathlib.Core.List.{List}
use Prim.Native.Nat.{ℕ, ◌+◌}
use native.Mathlib.Numerals.{add-one}
use lib.ListN.{get_or, set}
use lib.Ieee.{Float, nan}
use Rattle.numbers.specs.F32.{◌⊕◌, ◌⊗◌}
use Rattle.dx_units_step.specs.declared.Stepped.{Stepped}
use Rattle.dx_units_step.specs.Step.{stepped_for}
use Rattle.dx_units_inner.specs.Units.{rate_scaling_of}
use Rattle.envelope_inner.specs.declared.Envelope.{Envelope}
use Rattle.envelope_inner.specs.Envelope.{standing}
use Rattle.patch.specs.declared.Operator.{Operator}
use Rattle.patch.specs.Form.{operator_at}
use Rattle.dx_units_inner.specs.declared.Ratio.{Ratio}
use Rattle.voice_setup.specs.Setup.{envelope_at}
use Rattle.voice_levels.specs.declared.Followed.{Followed}
use Rattle.voice_levels.specs.declared.Placed.{Placed}
use Rattle.voice_levels.specs.declared.Scene.{Scene}
use Rattle.voice_levels.specs.declared.Raised.{Raised}
use Rattle.voice_levels.specs.declared.Levels.{Levels}
use Rattle.voice_levels.specs.Levels.{followed, taken, frequency_of, scaling_of, amplitude_of, put_at, no_ratio}
use Rattle.voice_levels.specs.Levels.{raised, raised_by, raised_to, amplitudes_to}

pub raised_of : (g : Scene) (o : Operator) (headroom : Float) (opcode : ℕ) (e : Envelope) {scale s : Float} {p : Placed}
    → scale ≡ rate_scaling_of g.note o.rate_scaling
    → taken e p ≡ followed g.timing true (g.timing.envelope_rate ⊗ scale) e
    → s ≡ scaling_of g o headroom opcode
    → raised_by e (record { position = p.position; level = p.value ⊕ s })
    ≡ raised g o headroom opcode e
unfolding raised
raised_of g o headroom opcode e {s = s} ec ep es = ap (λ (f : Followed). raised_by_lem f) ep ∙ rw (es, ec)
  where
    raised_by_lem : Followed → Followed
    raised_by_lem f = record { envelope = f.envelope; value = f.value ⊕ s }

-- one operator more
pub raised_next : (g : Scene) (ops : List Operator) (ratios : List Ratio) (headrooms : List Float) (row : List ℕ)
    (es : List Envelope) (k : ℕ) {l : Levels} {hz : Float} {s : Stepped} {r : Raised} {e : Envelope}
    → l ≡ raised_to g ops ratios headrooms row es k
    → hz ≡ frequency_of g (get_or ratios k no_ratio)
    → s ≡ stepped_for hz
    → raised_by (envelope_at es k) r
    ≡ raised g (operator_at ops k) (get_or headrooms k nan) (get_or row k 0) (envelope_at es k)
    → e ≡ standing (envelope_at es k) r.position
    → put_at k (record { envelope = e; step = s.step; mark = s.mark; amplitude = r.level }) l
    ≡ raised_to g ops ratios headrooms row es (k + 1)
unfolding raised_to
raised_next g ops ratios headrooms row es k el eh et er ee = rw (add-one k, el, ee, ← er, et, eh)

-- one amplitude more
pub sounded_next : (g : Scene) (ops : List Operator) (levels : List Float) (k : ℕ) {l : List Float} {a : Float}
    → l ≡ amplitudes_to g ops levels k
    → a ≡ amplitude_of g.amp_mod (operator_at ops k).amp_mod_sensitivity (get_or l k nan)
    → set l k a ≡ amplitudes_to g ops levels (k + 1)
unfolding amplitudes_to
sounded_next g ops levels k el ea = rw (add-one k, ea, el)
