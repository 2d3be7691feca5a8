-- The chart of levels and the formula: one computed test from 0 to 99 says that they agree, and that no level is above
-- 127. Assumes nothing.
use mathlib.Core.Path.{◌≡◌}
use mathlib.Core.Bool.{Bool, ◌&&◌}
use Prim.Native.Nat.{ℕ, ◌≤◌}
use native.Mathlib.Omega.{arith}
use lib.Dec.{T, eqb, leb, eqb→eq, leb→le}
use lib.ListN.{get_or}
use lib.Ieee.Fits.{and_l, and_r}
use Rattle.numbers.proofs.Below.{all_below, at_each}
use Rattle.dx_units_inner.specs.Tables.{level_chart}
use Rattle.dx_units_inner.specs.Units.{operator_level}

abbrev agrees : ℕ → Bool
agrees level = eqb (get_or level_chart level 0) (operator_level level)

abbrev held : ℕ → Bool
held level = leb (operator_level level) 127

-- the test
all_agree : T (all_below (λ level. agrees level && held level) 100)
unfolding all_below level_chart operator_level
all_agree = tt

module _ (level : ℕ) (h : level ≤ 99) where
  tested : T (agrees level && held level)
  tested = at_each (λ i. agrees i && held i) 100 all_agree level (omega arith)

  pub chart_agrees : get_or level_chart level 0 ≡ operator_level level
  chart_agrees = eqb→eq (get_or level_chart level 0) (operator_level level) (and_l (agrees level) (held level) tested)

  -- so the headroom, 127 less the level, is no negative number
  pub level_at_most_127 : operator_level level ≤ 127
  level_at_most_127 = leb→le (operator_level level) 127 (and_r (agrees level) (held level) tested)
