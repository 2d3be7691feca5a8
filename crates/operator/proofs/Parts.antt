-- A block by parts: the scan of the modulation, the phases of a part, and its samples at those phases.
-- Assumes nothing.
use mathlib.Core.Path.{◌≡◌, refl, sym, ap, ◌∙◌}
use Prim.Native.Nat.{ℕ, zero, suc, ◌+◌, ◌≤◌, ◌<◌}
use native.Mathlib.Nat.{add-zero, add_assoc, le_of_suc-le-suc, not-suc-le-zero, eq-or-lt_of_le}
use native.Mathlib.Numerals.{add-one}
use native.Mathlib.Omega.{arith}
use mathlib.Core.Bool.{Bool, true, ◌&&◌, and_assoc, and-true}
use mathlib.Core.List.{List, [], ◌∷◌}
use mathlib.Core.Logic.{◌⊎◌, inl, inr}
use lib.ListN.{length, drop, get_or, set, length-set, drop_of_length-le}
use lib.Seq.{drop-cons, get_or-set_same, get_or-set_other}
use lib.Ieee.{Float, nan}
use Rattle.numbers.specs.F32.{◌⊗◌}
use Rattle.numbers.specs.Words.{sum32}
use Rattle.numbers.proofs.Views.{both}
use Rattle.sine.specs.Sine.{near_by, modulated, phase_line, sine_pm}
use Rattle.operator.specs.Sample.{mixed, moved, sampled}
use Rattle.operator.specs.Chain.{entered, kept, through, all_moved, heard, next}
use Rattle.operator.specs.Parts.{all_near, stepped, Placed, Going}
use Rattle.operator.specs.Chain.Source.{external}
use Rattle.operator.specs.declared.Lane.{Lane}
use Rattle.operator.specs.declared.Feedback.{Feedback}
use Rattle.operator.proofs.Loop.{going_first, going_turn}

-- ---- the scan

pub near_turn : (m : List Float) (i : ℕ) (near r : Bool) → (near && all_near (drop i m)) ≡ all_near m
    → i < length m → r ≡ near_by (get_or m i nan) → (near && r && all_near (drop (i + 1) m)) ≡ all_near m
unfolding all_near
near_turn m i near r v h e =
    rw (e, add-one i)
    (and_assoc near (near_by (get_or m i nan)) (all_near (drop (suc i) m))
    ∙ ap (λ (b : Bool). near && b) (sym (ap all_near (drop-cons m i nan h))) ∙ v)

pub near_done : (m : List Float) (i : ℕ) (near : Bool) → (near && all_near (drop i m)) ≡ all_near m → length m ≤ i
    → near ≡ all_near m
unfolding all_near
near_done m i near v h = sym (and-true near) ∙ (rw (drop_of_length-le m h) at v)

pub near_at : (m : List Float) (i : ℕ) → all_near m ≡ true → i < length m → near_by (get_or m i nan) ≡ true
unfolding all_near
near_at [] i v h = absurd (not-suc-le-zero h)
near_at (x ∷ m) zero v h = (both (near_by x) (all_near m) v).0
near_at (x ∷ m) (suc i) v h = near_at m i (both (near_by x) (all_near m) v).1 (le_of_suc-le-suc h)

-- ---- the phases

pub record Placing (m : List Float) (i phase step k p : ℕ) (at : List ℕ) : Type 0 where
  pub here : p ≡ stepped k phase step
  pub before : Placed m i k phase step at

pub placing_first : (m : List Float) (i phase step : ℕ) (at : List ℕ) → Placing m i phase step 0 phase at
unfolding stepped
placing_first m i phase step at = record { here = refl; before = record { placed = λ k h. absurd (not-suc-le-zero h) } }

stepped_more : (k phase step p q : ℕ) → p ≡ stepped k phase step → q ≡ sum32 p step → q ≡ stepped (k + 1) phase step
unfolding stepped
stepped_more k phase step p q e d = rw (add-one k) (d ∙ ap (λ (z : ℕ). sum32 z step) e)

pub placing_turn : (m : List Float) (i phase step k p q v : ℕ) (at : List ℕ)
    → Placing m i phase step k p at → k < length at → q ≡ sum32 p step → v ≡ modulated q (get_or m (i + k) nan)
    → Placing m i phase step (k + 1) q (set at k v)
placing_turn m i phase step k p q v at r h eq ev = record {
  here = on;
  before = record { placed = λ j g. pick j g (eq-or-lt_of_le (omega arith)) };
}
  where
    on : q ≡ stepped (k + 1) phase step
    on = stepped_more k phase step p q r.here eq

    pick : (j : ℕ) → j < k + 1 → (j ≡ k) ⊎ (j < k)
        → get_or (set at k v) j 0 ≡ modulated (stepped (j + 1) phase step) (get_or m (i + j) nan)
    pick j g (inl e) = rw e (get_or-set_same at k v 0 h ∙ ev ∙ ap (λ (z : ℕ). modulated z (get_or m (i + k) nan)) on)
    pick j g (inr l) = get_or-set_other at k j v 0 (omega arith) ∙ r.before.placed j l

pub set_length : (at : List ℕ) (k v : ℕ) → length at ≡ 64 → length (set at k v) ≡ 64
set_length at k v e = length-set at k v ∙ e

-- ---- the samples

-- one operator from sample i on, k samples later
pub record Running (pairs m : List Float) (add : Bool) (i : ℕ) (l₀ : Lane) (f : Feedback) (out₀ : List Float)
    (k : ℕ) (l : Lane) (out : List Float) : Type 0 where
  pub going : Going pairs (external m) add
      i (record { lanes = l₀ ∷ []; feedback = f }) out₀ (i + k) (record { lanes = l ∷ []; feedback = f }) out
  pub phase : l.phase ≡ stepped k l₀.phase l₀.step
  pub step : l.step ≡ l₀.step

module _ (pairs m : List Float) (i : ℕ) (l₀ : Lane) (f : Feedback) where
  -- the phase that the code steps on to is the one of the next sample
  step_on : (k : ℕ) (l : Lane) → l.phase ≡ stepped k l₀.phase l₀.step → l.step ≡ l₀.step
      → sum32 l.phase l.step ≡ stepped (k + 1) l₀.phase l₀.step
  step_on k l ep es = stepped_more k l₀.phase l₀.step l.phase _ ep (ap (λ (z : ℕ). sum32 l.phase z) es)

  heard_is : (k : ℕ) (l : Lane) (a : ℕ) → l.phase ≡ stepped k l₀.phase l₀.step → l.step ≡ l₀.step
      → a ≡ modulated (stepped (k + 1) l₀.phase l₀.step) (get_or m (i + k) nan)
      → phase_line pairs a ⊗ l.amplitude ≡ heard pairs (external m) (i + k) (record { lanes = l ∷ []; feedback = f })
  unfolding heard through entered sampled sine_pm
  heard_is k l a ep es ea =
      ap (λ (q : ℕ). phase_line pairs q ⊗ l.amplitude)
      (ea ∙ ap (λ (z : ℕ). modulated z (get_or m (i + k) nan)) (sym (step_on k l ep es)))

  next_is : (j : ℕ) (l l' : Lane) → l' ≡ moved l
      → record { lanes = l' ∷ []; feedback = f } ≡ next pairs (external m) j (record { lanes = l ∷ []; feedback = f })
  unfolding next all_moved kept
  next_is j l l' e = rw e refl

module _ {pairs m : List Float} {add : Bool} {i : ℕ} {l₀ : Lane} {f : Feedback} {out₀ : List Float} where
  pub running_first : Running pairs m add i l₀ f out₀ 0 l₀ out₀
  unfolding stepped
  running_first = record {
    going = rw (add-zero i) going_first;
    phase = refl;
    step = refl;
  }

  pub running_turn : {k n : ℕ} {l l' : Lane} {out : List Float} {at : List ℕ} {pm v : Float}
      → Running pairs m add i l₀ f out₀ k l out → k < n → i + n ≤ length out₀ → Placed m i n l₀.phase l₀.step at
      → pm ≡ phase_line pairs (get_or at k 0) ⊗ l.amplitude → l' ≡ moved l → v ≡ mixed add (get_or out (i + k) nan) pm
      → Running pairs m add i l₀ f out₀ (k + 1) l' (set out (i + k) v)
  unfolding moved
  running_turn {k} {n} {l} {l'} {out} {at} {pm} {v} r h b a ep el ev =
      let size = r.going.size in
      let heard = ep ∙ heard_is pairs m i l₀ f k l (get_or at k 0) r.phase r.step (a.placed k h) in
      record {
        going = rw (← add_assoc i k 1)
            (going_turn r.going (omega arith) (next_is pairs m i l₀ f (i + k) l l' el)
            (ev ∙ ap (mixed add (get_or out (i + k) nan)) heard));
        phase = rw el (step_on pairs m i l₀ f k l r.phase r.step);
        step = rw el r.step;
      }
