-- The marks of the first operators: six, each its own operator's, and behind them as asked. Assumes nothing.
use mathlib.Core.Path.{◌≡◌, refl, ◌∙◌}
use mathlib.Core.Bool.{Bool, true, false}
use mathlib.Core.List.{List}
use Prim.Native.Nat.{ℕ, zero, suc, ◌≤◌, ◌<◌}
use native.Mathlib.Omega.{arith}
use borrow.Author.Tests.{eqb-true, eqb-false}
use lib.Dec.{eqb}
use lib.ListN.{get_or, length, length-set, replicate}
use lib.Seq.{get_or-set_same, get_or-set_other}
use lib.Ieee.{Float}
use Rattle.dx_units_inner.specs.declared.Ratio.{Ratio}
use Rattle.dx_units_step.specs.declared.Mark.TheVariants.{AsAsked}
use Rattle.dx_units_step.specs.declared.Mark.{Mark}
use Rattle.dx_units_step.specs.Step.{mark_for}
use Rattle.envelope_inner.specs.declared.Envelope.{Envelope}
use Rattle.patch.specs.declared.Operator.{Operator}
use Rattle.voice_levels.specs.declared.Scene.{Scene}
use Rattle.voice_levels.specs.Levels.{frequency_of, all_as_asked, leveled, put_at, no_ratio, leveled_to}

replicated : (n k : ℕ) (m : Mark) → get_or (replicate n m) k m ≡ m
replicated zero k m = refl
replicated (suc n) zero m = refl
replicated (suc n) (suc k) m = replicated n k m

pub all_as_asked_lem : (k : ℕ) → get_or all_as_asked k AsAsked ≡ AsAsked
unfolding all_as_asked
all_as_asked_lem k = replicated 6 k AsAsked

module _ (g : Scene) (ops : List Operator) (ratios : List Ratio) (headrooms : List Float) (row : List ℕ)
    (es : List Envelope) where
  abbrev marks : ℕ → List Mark
  marks n = (leveled_to g ops ratios headrooms row es n).marks

  pub marks_length : (n : ℕ) → length (marks n) ≡ 6
  unfolding leveled_to put_at all_as_asked
  marks_length zero = refl
  marks_length (suc n) = length-set (marks n) n _ ∙ marks_length n

  abbrev its_own : ℕ → Mark
  its_own k = mark_for (frequency_of g (get_or ratios k no_ratio))

  pub mark_of : (n k : ℕ) → k < n → n ≤ 6 → get_or (marks n) k AsAsked ≡ its_own k
  unfolding leveled_to put_at leveled
  mark_of zero k h l = absurd (omega arith)
  mark_of (suc n) k h l = go (eqb k n) refl (λ b. mark_of n k b (omega arith))
    where
      go : (b : Bool) → eqb k n ≡ b → (k < n → get_or (marks n) k AsAsked ≡ its_own k)
          → get_or (marks (suc n)) k AsAsked ≡ its_own k
      go true e before =
          let there = eqb-true k n e in
          let long = marks_length n in
          rw there (get_or-set_same (marks n) n (its_own n) AsAsked (omega arith))
      go false e before =
          let other = eqb-false k n e in
          get_or-set_other (marks n) n k (its_own n) AsAsked other ∙ before (omega arith)

  pub mark_behind : (n k : ℕ) → n ≤ k → get_or (marks n) k AsAsked ≡ AsAsked
  unfolding leveled_to put_at leveled
  mark_behind zero k h = all_as_asked_lem k
  mark_behind (suc n) k h =
      get_or-set_other (marks n) n k (its_own n) AsAsked (λ e. omega arith) ∙ mark_behind n k (omega arith)
