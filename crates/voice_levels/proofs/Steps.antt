-- The two steps of a block are the block: an operator's level and then its amplitude, each for all operators, are both
-- for each. Assumes nothing.
use mathlib.Core.Path.{◌≡◌, refl, ap, ◌∙◌}
use mathlib.Core.List.{List, [], ◌∷◌}
use Prim.Native.Nat.{ℕ, zero, suc, ◌≤◌, ◌<◌}
use native.Mathlib.Omega.{arith}
use lib.ListN.{get_or, set}
use lib.Ieee.{Float, nan}
use Rattle.envelope_inner.specs.declared.Envelope.{Envelope}
use Rattle.patch.specs.declared.Operator.{Operator}
use Rattle.patch.specs.Form.{operator_at}
use Rattle.dx_units_inner.specs.declared.Ratio.{Ratio}
use Rattle.voice_setup.specs.Setup.{envelope_at}
use Rattle.voice_levels.specs.declared.Scene.{Scene}
use Rattle.voice_levels.specs.declared.Levels.{Levels}
use Rattle.voice_levels.specs.Levels.{amplitude_of, leveled, put_at, no_ratio, leveled_to, raised, raised_to}
use Rattle.voice_levels.specs.Levels.{amplitudes_to}

module _ (f : Float → Float) where
  -- an element put in its place and changed there
  set_changed : (xs : List Float) (n : ℕ) (x : Float)
      → set (set xs n x) n (f (get_or (set xs n x) n nan)) ≡ set xs n (f x)
  set_changed [] n x = refl
  set_changed (y ∷ xs) zero x = refl
  set_changed (y ∷ xs) (suc n) x = ap (λ (l : List Float). y ∷ l) (set_changed xs n x)

  -- and an earlier one changed after it
  set_earlier : (xs : List Float) (k n : ℕ) (x : Float) → k < n
      → set (set xs n x) k (f (get_or (set xs n x) k nan)) ≡ set (set xs k (f (get_or xs k nan))) n x
  set_earlier [] k n x h = refl
  set_earlier (y ∷ xs) k zero x h = absurd (omega arith)
  set_earlier (y ∷ xs) zero (suc n) x h = refl
  set_earlier (y ∷ xs) (suc k) (suc n) x h = ap (λ (l : List Float). y ∷ l) (set_earlier xs k n x (omega arith))

module _ (g : Scene) (ops : List Operator) where
  -- an operator's amplitude of a level
  abbrev at : ℕ → Float → Float
  at k = amplitude_of g.amp_mod (operator_at ops k).amp_mod_sensitivity

  -- the first amplitudes do not ask for a later level
  sounded_put : (n : ℕ) (x : Float) (xs : List Float) (k : ℕ) → k ≤ n
      → amplitudes_to g ops (set xs n x) k ≡ set (amplitudes_to g ops xs k) n x
  unfolding amplitudes_to
  sounded_put n x xs zero h = refl
  sounded_put n x xs (suc k) h =
      ap (λ (s : List Float). set s k (at k (get_or s k nan))) (sounded_put n x xs k (omega arith))
      ∙ set_earlier (at k) (amplitudes_to g ops xs k) k n x (omega arith)

  -- and its own is the amplitude of its level
  sounded_last : (n : ℕ) (x : Float) (xs : List Float)
      → amplitudes_to g ops (set xs n x) (suc n) ≡ set (amplitudes_to g ops xs n) n (at n x)
  unfolding amplitudes_to
  sounded_last n x xs =
      ap (λ (s : List Float). set s n (at n (get_or s n nan))) (sounded_put n x xs n (omega arith))
      ∙ set_changed (at n) (amplitudes_to g ops xs n) n x

-- levels with other amplitudes
abbrev with_amplitudes : Levels → List Float → Levels
with_amplitudes l amplitudes = record {
  operator_envelope = l.operator_envelope;
  steps = l.steps;
  marks = l.marks;
  amplitudes = amplitudes;
}

module _ (g : Scene) (ops : List Operator) (ratios : List Ratio) (headrooms : List Float) (row : List ℕ)
    (es : List Envelope) where
  abbrev to : ℕ → Levels
  to = raised_to g ops ratios headrooms row es

  -- the two steps together
  sounded_raised : (n : ℕ)
      → with_amplitudes (to n) (amplitudes_to g ops (to n).amplitudes n) ≡ leveled_to g ops ratios headrooms row es n
  unfolding raised_to leveled_to raised leveled put_at amplitudes_to
  sounded_raised zero = refl
  sounded_raised (suc n) =
      let o = operator_at ops n in
      let one = leveled g o (get_or ratios n no_ratio) (get_or headrooms n nan) (get_or row n 0) (envelope_at es n) in
      let level = (raised g o (get_or headrooms n nan) (get_or row n 0) (envelope_at es n)).value in
      ap (with_amplitudes (to (suc n))) (sounded_last g ops n level (to n).amplitudes)
      ∙ ap (put_at n one) (sounded_raised n)

  pub sounded_is_leveled : (n : ℕ) {l : Levels} {amplitudes : List Float} → l ≡ to n
      → amplitudes ≡ amplitudes_to g ops l.amplitudes n
      → with_amplitudes l amplitudes ≡ leveled_to g ops ratios headrooms row es n
  sounded_is_leveled n el ea = rw (ea, el) (sounded_raised n)
