-- What the scrub answers, by its tests: past the gate's end it asks itself once, however many calls are allowed, and
-- past all stages it hands back the level itself. Assumes nothing.
use mathlib.Core.Path.{◌≡◌, refl}
use mathlib.Core.Bool.{Bool, true, false}
use Prim.Native.Nat.{ℕ, zero, suc, ◌-◌, ◌*◌}
use native.Mathlib.Nat.{le_refl}
use native.Mathlib.Numerals.{sub-one}
use borrow.Author.Tests.{le-ltb}
use lib.Ieee.{Float, nan, inf, fin, lt, le, up, down}
use Rattle.numbers.specs.F32.{◌⊖◌, ◌⊗◌, decimal}
use Rattle.envelope_inner.specs.declared.Envelope.{Envelope}
use Rattle.envelope_inner.specs.Envelope.{increment_at, level_at}
use Rattle.envelope_inner.specs.Scrub.{held, released, scrubbed}

-- no float is less than itself
lt_self : (x : Float) → lt x x ≡ false
unfolding lt
lt_self nan = refl
lt_self (inf true) = refl
lt_self (inf false) = refl
lt_self (fin true m e) = le-ltb (m * up e * down e) (m * up e * down e) (le_refl (m * up e * down e))
lt_self (fin false m e) = le-ltb (m * up e * down e) (m * up e * down e) (le_refl (m * up e * down e))

module _ (reshape : Bool) (e : Envelope) where
  -- with no call allowed, the gate counts as open
  pub scrubbed_last : (calls : ℕ) (t gate_duration : Float) → calls ≡ 0
      → scrubbed calls reshape e t gate_duration ≡ held reshape e t gate_duration
  unfolding scrubbed
  scrubbed_last calls t gate_duration z = rw z

  -- up to the gate's end
  pub scrubbed_held : (calls : ℕ) (t gate_duration : Float) → lt gate_duration t ≡ false
      → scrubbed calls reshape e t gate_duration ≡ held reshape e t gate_duration
  unfolding scrubbed
  scrubbed_held zero t gate_duration h = refl
  scrubbed_held (suc calls) t gate_duration h = rw h

  -- past it
  pub scrubbed_released : (calls : ℕ) (t gate_duration : Float) → (calls ≡ 0 → ⊥) → lt gate_duration t ≡ true
      → scrubbed calls reshape e t gate_duration
      ≡ released reshape e (t ⊖ gate_duration) (scrubbed (calls - 1) reshape e gate_duration gate_duration)
  unfolding scrubbed
  scrubbed_released zero t gate_duration n h = absurd (n refl)
  scrubbed_released (suc calls) t gate_duration n h = rw (h, sub-one)

  module _ (calls : ℕ) (t gate_duration : Float) (past : lt gate_duration t ≡ true) where
    -- one call is enough: the level at the gate's end is that of an open gate
    pub asks_once : scrubbed (suc calls) reshape e t gate_duration
        ≡ released reshape e (t ⊖ gate_duration) (held reshape e gate_duration gate_duration)
    unfolding scrubbed
    asks_once = rw (past, scrubbed_held calls gate_duration gate_duration (lt_self gate_duration))

    -- the release is over
    pub released_level : le (decimal 1 0) ((t ⊖ gate_duration) ⊗ increment_at e 3) ≡ true
        → scrubbed (suc calls) reshape e t gate_duration ≡ level_at e 3
    unfolding scrubbed released
    released_level over = rw (past, over)
